use Rattle.std.proofs.Common.{◌≡◌, drop, get_or, map, pos}
use Rattle.wc_model.specs.Flow.Exact.{sum_exact}
use Rattle.wc_simplex.specs.Inner.Halves.{column_sum}
use Rattle.wc_simplex.proofs.halves.column_entry.Given as goal

abbrev pub invariant-loop-place : goal.invariant-loop-place
invariant-loop-place l = sum_exact l.acc (map (λ i. get_or l.entries i (pos 0)) (drop l.place-index l.column)) ≡ column_sum l.entries l.column
