use Rattle.wc_nest.specs.Inner.Checks.{AreOrdered}
use Rattle.wc_nest.proofs.tests.are_ordered.Given as goal

abbrev pub invariant-loop-index : goal.invariant-loop-index
invariant-loop-index l = AreOrdered l.nodes l.steps l.index
