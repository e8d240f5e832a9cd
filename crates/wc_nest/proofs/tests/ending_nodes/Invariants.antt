use Rattle.std.proofs.Common.{◌≡◌, length}
use Rattle.wc_nest.specs.Inner.Checks.{AreEnding}
use Rattle.wc_nest.proofs.tests.ending_nodes.Given as goal

abbrev pub invariant-loop-round : goal.invariant-loop-round
invariant-loop-round l = record { count : length l.ending.items ≡ l.nodes; ending : AreEnding l.steps l.ending.items }
