use Rattle.std.proofs.Common.{◌≡◌, drop, length, take}
use Rattle.wc_model.specs.Flow.Exact.{add_rows}
use Rattle.wc_simplex.specs.Inner.Steps.{behind}
use Rattle.wc_simplex.proofs.starts.add_into.Given as goal

abbrev pub invariant-loop-place : goal.invariant-loop-place
invariant-loop-place l =
    (length l.sums.items ≡ length l.row) × (length l.sums.items ≡ length l.fn.sums.items)
    × (behind (take l.place l.sums.items) (add_rows (drop l.place l.sums.items) (drop l.place l.row)) ≡ add_rows l.fn.sums.items l.row)
