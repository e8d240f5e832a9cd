use Rattle.std.proofs.Common.{◌≡◌, length}
use Rattle.wc_simplex.proofs.tests.machines.slacks.Given as goal

abbrev pub invariant-loop-own : goal.invariant-loop-own
invariant-loop-own l = length l.basis.items ≡ l.own
