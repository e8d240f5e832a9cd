use Rattle.std.proofs.Common.{◌≡◌, ◌++◌, drop, length, map, pos, take}
use Rattle.std.specs.Int.RustNames.{int_div}
use Rattle.wc_simplex.proofs.rows.divide.Given as goal

abbrev pub invariant-loop-place : goal.invariant-loop-place
invariant-loop-place l =
    (length l.row.items ≡ length l.fn.row.items) × (l.row.items ≡ map (λ x. int_div x (pos l.by)) (take l.place l.fn.row.items) ++ drop l.place l.fn.row.items)
