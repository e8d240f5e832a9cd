use Rattle.std.proofs.Common.{◌≡◌, length}
use Rattle.wc_nest.specs.Inner.Classes.{AreFirst}
use Rattle.wc_nest.proofs.classes.find_first.Given as goal

abbrev pub invariant-loop-index : goal.invariant-loop-index
invariant-loop-index l =
    record {
      count : length l.next.items ≡ length l.fn.next.items;
      so_far : AreFirst l.ways l.index l.next.items;
    }
