use Rattle.std.proofs.Common.{ℕ, ◌<◌, slice_index_or}
use Rattle.wc_model.specs.declared.graphs.Step.{Step}
use Rattle.wc_cost.proofs.tests.leave.Given as goal

abbrev pub invariant-loop-step : goal.invariant-loop-step
invariant-loop-step l = (k : ℕ) (d : Step) → k < l.step-index → (slice_index_or l.steps k d).source < 8
