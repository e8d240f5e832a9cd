use Rattle.std.proofs.Common.{ℕ, ◌≡◌, ◌<◌, None, slice_index_or}
use Rattle.wc_model.specs.declared.graphs.Context.{Context}
use Rattle.wc_nest.proofs.tests.are_roots.Given as goal

abbrev pub invariant-loop-context : goal.invariant-loop-context
invariant-loop-context l = (k : ℕ) (d : Context) → k < l.context-index → (slice_index_or l.contexts k d).parent ≡ None
