use Rattle.std.proofs.Common.{◌≡◌, length}
use Rattle.wc_cost.proofs.tests.nodes.Given as goal

abbrev pub invariant-loop-number : goal.invariant-loop-number
invariant-loop-number l = length l.nodes.items ≡ l.number
