use Rattle.std.proofs.Common.{◌≡◌, drop}
use Rattle.wc_model.specs.Flow.Exact.{each_of}
use Rattle.wc_simplex.specs.Inner.Halves.{column_sum}
use Rattle.wc_simplex.specs.Inner.Steps.{behind}
use Rattle.wc_simplex.proofs.halves.column_entries.Given as goal

abbrev pub invariant-loop-column : goal.invariant-loop-column
invariant-loop-column l = behind l.found.items (each_of (column_sum l.entries) (drop l.column-index l.columns)) ≡ each_of (column_sum l.entries) l.columns
