use Rattle.std.proofs.Common.{◌≡◌, pos, ◌+ℤ◌, take}
use Rattle.wc_base.specs.Sums.{sum_placed}
use Rattle.wc_model.specs.Flow.Places.{number_at}
use Rattle.wc_dual.specs.Inner.Limits.{factor_term}
use Rattle.wc_dual.proofs.limits.factors_times.Given as goal

abbrev pub invariant-loop-factor : goal.invariant-loop-factor
invariant-loop-factor l = l.sum ≡ pos 0 +ℤ sum_placed (factor_term l.steps (number_at l.x)) (take l.factor-index l.factors)
