use Rattle.wc_system.specs.Inner.Counted.{AreCounts, enters_node}
use Rattle.wc_system.proofs.cells.steps_in.Given as goal

abbrev pub invariant-loop-place : goal.invariant-loop-place
invariant-loop-place l = AreCounts enters_node l.steps l.nodes l.place l.counts.items
