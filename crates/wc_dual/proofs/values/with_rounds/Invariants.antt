use Rattle.std.proofs.Common.{◌≡◌, ◌+ℤ◌, take}
use Rattle.wc_base.specs.Sums.{sum_placed}
use Rattle.wc_model.specs.Flow.Places.{number_at}
use Rattle.wc_dual.specs.Inner.Values.{round_term}
use Rattle.wc_dual.proofs.values.with_rounds.Given as goal

abbrev pub invariant-loop-place : goal.invariant-loop-place
invariant-loop-place l = l.sum ≡ l.fn.begin +ℤ sum_placed (round_term l.start (number_at l.v)) (take l.place l.loops)
