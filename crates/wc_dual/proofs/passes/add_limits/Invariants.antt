use Rattle.std.proofs.Common.{take}
use Rattle.wc_model.specs.Flow.Places.{number_at}
use Rattle.wc_dual.specs.Inner.Blocks.{Adds}
use Rattle.wc_dual.specs.Inner.Lines.{limit_term}
use Rattle.wc_dual.specs.Inner.Passes.{added_by}
use Rattle.wc_dual.proofs.passes.add_limits.Given as goal

abbrev pub invariant-loop-place : goal.invariant-loop-place
invariant-loop-place l = Adds l.first (added_by (limit_term l.steps (number_at l.w)) (take l.place l.limits)) l.fn.sums l.sums
