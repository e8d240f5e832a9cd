use Rattle.std.proofs.Common.{nat_lt, slice_get}
use Rattle.wc_base.specs.Sums.{chosen}
use Rattle.wc_model.specs.Flow.SystemWalks.{cost_at}
use Rattle.wc_dual.specs.Inner.Blocks.{Adds}
use Rattle.wc_dual.specs.Inner.Lines.{pay}
use Rattle.wc_dual.proofs.passes.pay_factor.Given as goal

abbrev pub invariant-loop-place : goal.invariant-loop-place
invariant-loop-place l = Adds l.first (λ i. chosen (nat_lt i l.place) (cost_at (pay l.factor l.price) (slice_get l.steps i))) l.fn.sums l.sums
