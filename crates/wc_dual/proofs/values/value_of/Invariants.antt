use Rattle.std.proofs.Common.{◌≡◌, pos, ◌+ℤ◌, take}
use Rattle.wc_base.specs.Sums.{sum_placed}
use Rattle.wc_model.specs.Flow.Places.{number_at}
use Rattle.wc_dual.specs.Inner.Values.{value_term}
use Rattle.wc_dual.proofs.values.value_of.Given as goal

abbrev pub invariant-loop-place : goal.invariant-loop-place
invariant-loop-place l = l.sum ≡ pos 0 +ℤ sum_placed (value_term (number_at l.x)) (take l.place l.steps)
