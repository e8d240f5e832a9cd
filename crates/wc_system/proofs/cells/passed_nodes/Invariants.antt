use Rattle.wc_system.specs.Inner.Counted.{ArePassed}
use Rattle.wc_system.proofs.cells.passed_nodes.Given as goal

abbrev pub invariant-loop-node : goal.invariant-loop-node
invariant-loop-node l = ArePassed l.system l.node l.passed.items
