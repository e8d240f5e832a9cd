use Rattle.std.proofs.Common.{◌≡◌, ◌<◌, ◌^◌, All, IfSome, take}
use Rattle.wc_mustmay.specs.Inner.OneSet.{own_access}
use Rattle.wc_mustmay.proofs.own_lines.own_lines.Given as goal

abbrev pub invariant-loop-line : goal.invariant-loop-line
invariant-loop-line l =
    record {
      own : l.own.items ≡ own_access l.sets l.set (take l.line-index l.access);
      small : All (λ x. IfSome x (λ line. line < 2 ^ 32)) l.own.items;
    }
