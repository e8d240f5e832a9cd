use Rattle.std.proofs.Common.{◌*ℤ◌, slice_get, take}
use Rattle.wc_model.specs.Flow.Certificates.{factor_of}
use Rattle.wc_model.specs.Flow.SystemWalks.{cost_at}
use Rattle.wc_dual.specs.Inner.Blocks.{Adds}
use Rattle.wc_dual.proofs.passes.pay_limit.Given as goal

abbrev pub invariant-loop-factor : goal.invariant-loop-factor
invariant-loop-factor l = Adds l.first (λ i. cost_at (λ t. factor_of t.source (take l.factor-index l.factor-items) *ℤ l.price) (slice_get l.steps i)) l.fn.sums l.sums
