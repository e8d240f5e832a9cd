use Rattle.std.proofs.Common.{◌≡◌, take}
use Rattle.wc_base.specs.Sums.{sum_placed}
use Rattle.wc_model.specs.Flow.Places.{number_at}
use Rattle.wc_dual.specs.Inner.Sources.{leaving}
use Rattle.wc_dual.proofs.sources.visits_of.Given as goal

abbrev pub invariant-loop-place : goal.invariant-loop-place
invariant-loop-place l = l.sum ≡ sum_placed (leaving (number_at l.x) l.node) (take l.place l.steps)
