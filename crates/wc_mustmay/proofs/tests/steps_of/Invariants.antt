use Rattle.wc_mustmay.specs.Inner.LineGraphs.{IsLine}
use Rattle.wc_mustmay.proofs.tests.steps_of.Given as goal

abbrev pub invariant-loop-source : goal.invariant-loop-source
invariant-loop-source l = IsLine l.nodes l.source l.steps.items
