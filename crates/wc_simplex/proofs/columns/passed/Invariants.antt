use Rattle.wc_simplex.specs.Inner.Columns.{ArePassedTo}
use Rattle.wc_simplex.proofs.columns.passed.Given as goal

abbrev pub invariant-loop-node : goal.invariant-loop-node
invariant-loop-node l = ArePassedTo l.system l.node l.passed.items
