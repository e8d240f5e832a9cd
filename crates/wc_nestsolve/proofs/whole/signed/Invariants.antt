use Rattle.std.proofs.Common.{◌≡◌, map, pos, take}
use Rattle.wc_nestsolve.proofs.whole.signed.Given as goal

abbrev pub invariant-loop-number : goal.invariant-loop-number
invariant-loop-number l = l.values.items ≡ map pos (take l.number-index l.numbers)
