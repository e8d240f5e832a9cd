use Rattle.std.proofs.Common.{◌≡◌, ◌++◌, drop, length, map}
use Rattle.wc_model.specs.Flow.Tableaus.{whole_rows}
use Rattle.wc_simplex.specs.Inner.Halves.{half_as}
use Rattle.wc_simplex.proofs.starts.make_rows.Given as goal

abbrev pub invariant-loop-place : goal.invariant-loop-place
invariant-loop-place l =
    l.rows.items ++ whole_rows (length l.halves) l.place (map half_as (drop l.place l.halves)) ≡ whole_rows (length l.halves) 0 (map half_as l.halves)
