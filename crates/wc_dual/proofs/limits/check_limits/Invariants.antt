use Rattle.std.proofs.Common.{◌<◌, ℕ, slice_index_or}
use Rattle.wc_model.specs.declared.flow_system.SystemLimit.{SystemLimit}
use Rattle.wc_model.specs.Flow.Counts.{IsLimited}
use Rattle.wc_model.specs.Flow.Places.{number_at}
use Rattle.wc_dual.proofs.limits.check_limits.Given as goal

abbrev pub invariant-loop-row : goal.invariant-loop-row
invariant-loop-row l = (k : ℕ) (d : SystemLimit) → k < l.row-index → IsLimited l.system.steps l.den (number_at l.x) (slice_index_or l.row-items k d)
