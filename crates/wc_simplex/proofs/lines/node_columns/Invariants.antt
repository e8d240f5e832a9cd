use Rattle.std.proofs.Common.{◌≡◌, ◌++◌, drop, map}
use Rattle.wc_simplex.specs.Inner.Columns.{node_ends}
use Rattle.wc_simplex.proofs.lines.node_columns.Given as goal

abbrev pub invariant-loop-column : goal.invariant-loop-column
invariant-loop-column l = l.entries.items ++ map (node_ends l.steps l.node) (drop l.column-index l.columns) ≡ map (node_ends l.steps l.node) l.columns
