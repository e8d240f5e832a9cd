use Rattle.std.proofs.Common.{ℕ, ◌<◌, ◌≤◌, slice_index_or}
use Rattle.wc_model.specs.declared.flow_system.SystemStep.{SystemStep}
use Rattle.wc_dual.proofs.sources.are_by_source.Given as goal

abbrev pub invariant-loop-place : goal.invariant-loop-place
invariant-loop-place l = (i j : ℕ) (d : SystemStep) → i ≤ j → j < l.place → (slice_index_or l.steps i d).source ≤ (slice_index_or l.steps j d).source
