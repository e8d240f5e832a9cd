use Rattle.std.proofs.Common.{ℕ, ◌<◌, slice_index_or}
use Rattle.wc_model.specs.declared.graphs.Head.{Head}
use Rattle.wc_bounds.proofs.tests.are_nodes.Given as goal

abbrev pub invariant-loop-head : goal.invariant-loop-head
invariant-loop-head l = (k : ℕ) (d : Head) → k < l.head-index → (slice_index_or l.heads k d).node < l.count
