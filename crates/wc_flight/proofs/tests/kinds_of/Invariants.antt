use Rattle.std.proofs.Common.{◌≡◌, take}
use Rattle.wc_flight.proofs.tests.kinds_of.Given as goal

abbrev pub invariant-loop-number : goal.invariant-loop-number
invariant-loop-number l = l.kinds.items ≡ take l.number-index l.numbers
