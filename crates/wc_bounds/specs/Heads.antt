-- What is needed of a graph and the heads of its loops, in numbers.
use Rattle.std.specs.Prelude.{ℕ, ◌≡◌, ◌<◌, Some, IfSome, All, slice_get, length}
use Rattle.wc_model.specs.declared.graphs.Context.{Context}
use Rattle.wc_model.specs.declared.graphs.Graph.{Graph}
use Rattle.wc_model.specs.declared.graphs.Nest.{Nest}

-- the heads are nodes, each node has a context, and each context comes after its parent
pub record HavePlaces (graph : Graph) (nest : Nest) : Type 0 where
  pub heads : All (λ h. h.node < length graph.nodes) nest.heads
  pub placed : All (λ n. n.context < length graph.contexts) graph.nodes
  pub parents : (k : ℕ) (c : Context) → slice_get graph.contexts k ≡ Some c → IfSome c.parent (λ j. j < k)
