use Rattle.std.proofs.Common.{◌≡◌, drop, length, take}
use Rattle.wc_model.specs.Flow.Exact.{each_of, negate_exact}
use Rattle.wc_simplex.specs.Inner.Steps.{behind}
use Rattle.wc_simplex.proofs.rows.negate_entries.Given as goal

abbrev pub invariant-loop-place : goal.invariant-loop-place
invariant-loop-place l =
    (length l.row.items ≡ length l.fn.row.items) × (behind (take l.place l.row.items) (each_of negate_exact (drop l.place l.row.items)) ≡ each_of negate_exact l.fn.row.items)
