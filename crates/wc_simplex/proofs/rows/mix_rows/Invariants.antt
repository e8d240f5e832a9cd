use Rattle.std.proofs.Common.{◌≡◌, drop, length, take}
use Rattle.wc_model.specs.Flow.Exact.{mix_row}
use Rattle.wc_simplex.specs.Inner.Steps.{behind}
use Rattle.wc_simplex.proofs.rows.mix_rows.Given as goal

abbrev pub invariant-loop-place : goal.invariant-loop-place
invariant-loop-place l =
    (length l.row.items ≡ length l.pivot) × (length l.row.items ≡ length l.fn.row.items) × (behind (take l.place l.row.items) (mix_row l.a l.b (drop l.place l.row.items) (drop l.place l.pivot)) ≡ mix_row l.a l.b l.fn.row.items l.pivot)
