use Rattle.std.proofs.Common.{◌<◌, ℕ, slice_index_or}
use Rattle.wc_model.specs.declared.flow_system.SystemLoop.{SystemLoop}
use Rattle.wc_model.specs.Flow.Counts.{IsBounded}
use Rattle.wc_model.specs.Flow.Places.{number_at}
use Rattle.wc_dual.proofs.loops.check_loops.Given as goal

abbrev pub invariant-loop-row : goal.invariant-loop-row
invariant-loop-row l = (k : ℕ) (d : SystemLoop) → k < l.row-index → IsBounded l.system.start l.den (number_at l.x) (slice_index_or l.row-items k d)
