use Rattle.wc_system.specs.Inner.Counted.{AreCounts, leaves_node}
use Rattle.wc_system.proofs.cells.steps_out.Given as goal

abbrev pub invariant-loop-place : goal.invariant-loop-place
invariant-loop-place l = AreCounts leaves_node l.steps l.nodes l.place l.counts.items
