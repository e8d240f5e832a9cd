use Rattle.wc_nest.specs.Inner.Nestings.{AreNumbers}
use Rattle.wc_nest.proofs.graph_nest.numbers.Given as goal

abbrev pub invariant-loop-node : goal.invariant-loop-node
invariant-loop-node l = AreNumbers l.node l.members.items
