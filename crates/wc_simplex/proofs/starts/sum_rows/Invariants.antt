use Rattle.std.proofs.Common.{◌≡◌, drop, length, map, pos, replicate}
use Rattle.wc_model.specs.Flow.Tableaus.{sum_of_rows}
use Rattle.wc_simplex.specs.Inner.Halves.{line_of}
use Rattle.wc_simplex.proofs.starts.sum_rows.Given as goal

abbrev pub invariant-loop-half : goal.invariant-loop-half
invariant-loop-half l =
    (length l.sums.items ≡ l.width) × (sum_of_rows l.sums.items (map line_of (drop l.half-index l.halves)) ≡ sum_of_rows (replicate l.width (pos 0)) (map line_of l.halves))
