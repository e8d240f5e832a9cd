use Rattle.std.proofs.Common.{◌≡◌, ◌+ℤ◌, take}
use Rattle.wc_base.specs.Sums.{sum_placed}
use Rattle.wc_model.specs.Flow.Places.{number_at}
use Rattle.wc_dual.specs.Inner.Values.{constant_term}
use Rattle.wc_dual.proofs.values.with_constants.Given as goal

abbrev pub invariant-loop-place : goal.invariant-loop-place
invariant-loop-place l = l.sum ≡ l.fn.begin +ℤ sum_placed (constant_term (number_at l.w)) (take l.place l.limits)
