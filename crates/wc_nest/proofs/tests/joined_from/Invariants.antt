use Rattle.std.proofs.Common.{◌≡◌, length}
use Rattle.wc_nest.specs.Inner.Checks.{AreJoined}
use Rattle.wc_nest.proofs.tests.joined_from.Given as goal

abbrev pub invariant-loop-round : goal.invariant-loop-round
invariant-loop-round l = record { count : length l.joined.items ≡ l.nodes; joined : AreJoined l.steps l.start l.joined.items }
