use Rattle.wc_nestsolve.specs.Inner.Tables.{IsFilled}
use Rattle.wc_nestsolve.proofs.tables.fill.Given as goal

abbrev pub invariant-loop-node : goal.invariant-loop-node
invariant-loop-node l = IsFilled l.system l.nest l.goal l.extra l.nodes l.node-index l.best.items
