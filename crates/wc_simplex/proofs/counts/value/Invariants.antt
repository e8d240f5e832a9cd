use Rattle.std.proofs.Common.{◌≡◌, drop, pos}
use Rattle.wc_model.specs.Flow.RowResults.{sum_terms, value_terms}
use Rattle.wc_simplex.proofs.counts.value.Given as goal

abbrev pub invariant-loop-place : goal.invariant-loop-place
invariant-loop-place l = sum_terms l.acc (value_terms (drop l.place l.steps) (drop l.place l.counts)) ≡ sum_terms (pos 0) (value_terms l.steps l.counts)
