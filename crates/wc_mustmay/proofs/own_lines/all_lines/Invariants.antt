use Rattle.std.proofs.Common.{◌≡◌, map, take, Some}
use Rattle.wc_mustmay.proofs.own_lines.all_lines.Given as goal

abbrev pub invariant-loop-line : goal.invariant-loop-line
invariant-loop-line l = l.all.items ≡ map Some (take l.line-index l.lines)
