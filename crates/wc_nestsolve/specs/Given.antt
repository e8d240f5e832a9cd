-- The system of a graph and its nest, whatever its loops' bounds and its steps' costs.
use Rattle.std.specs.Prelude.{ℕ, ◌≡◌, List, length}
use Rattle.wc_model.specs.declared.flow_facts.Fact.{Fact}
use Rattle.wc_model.specs.declared.flow_system.System.{System}
use Rattle.wc_model.specs.declared.graphs.Bounds.{Bounds}
use Rattle.wc_model.specs.declared.graphs.Costs.{Costs}
use Rattle.wc_model.specs.declared.graphs.Graph.{Graph}
use Rattle.wc_model.specs.declared.graphs.Nest.{Nest}
use Rattle.wc_model.specs.Flow.Systems.{IsSystemOf}

pub record IsSystemIn (graph : Graph) (nest : Nest) (s : System) : Type 0 where
  pub bounds : Bounds
  pub costs : Costs
  pub facts : List (ℕ × Fact)
  pub bounds_counted : length bounds.of ≡ length nest.heads
  pub costs_counted : length costs.of ≡ length graph.steps
  pub system_is : IsSystemOf graph nest bounds costs facts s
