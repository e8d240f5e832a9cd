use Rattle.std.proofs.Common.{◌≡◌, take}
use Rattle.wc_base.specs.Sums.{sum_in}
use Rattle.wc_model.specs.Flow.Places.{number_at}
use Rattle.wc_dual.proofs.numbers.sum_of.Given as goal

abbrev pub invariant-loop-place : goal.invariant-loop-place
invariant-loop-place l = l.sum ≡ sum_in (number_at l.x) (take l.place-index l.places)
