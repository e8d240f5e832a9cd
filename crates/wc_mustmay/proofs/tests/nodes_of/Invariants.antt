use Rattle.wc_mustmay.specs.Inner.LineGraphs.{AreOfOneStack}
use Rattle.wc_mustmay.proofs.tests.nodes_of.Given as goal

abbrev pub invariant-loop-pc : goal.invariant-loop-pc
invariant-loop-pc l = AreOfOneStack l.pc-index l.nodes.items
