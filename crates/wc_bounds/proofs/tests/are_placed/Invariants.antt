use Rattle.std.proofs.Common.{ℕ, ◌<◌, slice_index_or}
use Rattle.wc_model.specs.declared.graphs.Node.{Node}
use Rattle.wc_bounds.proofs.tests.are_placed.Given as goal

abbrev pub invariant-loop-node : goal.invariant-loop-node
invariant-loop-node l = (k : ℕ) (d : Node) → k < l.node-index → (slice_index_or l.nodes k d).context < l.count
