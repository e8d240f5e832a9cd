use Rattle.std.proofs.Common.{◌≡◌, ◌+◌, ◌≤◌, length}
use Rattle.wc_model.specs.Flow.Cells.{row_nodes}
use Rattle.wc_system.specs.Inner.Counted.{rows_from}
use Rattle.wc_system.proofs.cells.row_count.Given as goal

abbrev pub invariant-loop-node : goal.invariant-loop-node
invariant-loop-node l = record { few : l.count ≤ l.node; to_come : l.count + length (rows_from l.system l.node) ≡ length (row_nodes l.system) }
