-- The whole chain has at most one outcome.
use Rattle.std.proofs.Common.{ℕ, List, Result, Ok, Err, refl, ap}
use Rattle.wc_base.specs.declared.faults.Fault.{Fault}
use Rattle.wc_model.specs.declared.flow_system.System.{System}
use Rattle.wc_model.specs.declared.graphs.Bounds.{Bounds}
use Rattle.wc_model.specs.declared.graphs.Costs.{Costs}
use Rattle.wc_model.specs.declared.graphs.Graph.{Graph}
use Rattle.wc_model.specs.declared.graphs.Nest.{Nest}
use Rattle.wc_model.specs.declared.values.Outcome.TheVariants.{Bound, Fault as Refused, Memory}
use Rattle.wc_model.specs.Flow.Bounds.{AreBounds}
use Rattle.wc_model.specs.Workspace.Chain.{ChainResult, CostsOf}
use Rattle.wc_model.specs.Workspace.Edits.{Setting}
use Rattle.wc_model.specs.Workspace.Phases.{After, BoundOf, BoundsOf, GraphOf, NestOf, SolutionOf, SystemOf, stated}
use Rattle.wc_laws.proofs.OneBoundLemmas.{bounds_one}
use Rattle.wc_laws.proofs.OneCostLemmas.{costs_one}
use Rattle.wc_laws.proofs.OneGraphFaultLemmas.{graph_of, graph_one}
use Rattle.wc_laws.proofs.OneNestFaultLemmas.{nest_one}
use Rattle.wc_laws.proofs.OnePhaseLemmas.{IsOne, after_by, not_both, same_fault, same_value}
use Rattle.wc_laws.proofs.OneSolutionLemmas.{solved_one}
use Rattle.wc_laws.proofs.OneSystemLemmas.{system_of, system_one}
use Rattle.wc_laws.proofs.SystemPlaces.{has_places}
use Rattle.wc_laws.specs.OneOutcome.{HasAtMostOneOutcome}

-- The chain from each phase on.
module _ (inputs : Setting) where
  abbrev FromSolution : System → Result ℕ Fault → Type 0
  FromSolution system = After (SolutionOf system) (λ solution. BoundOf system)

  abbrev FromSystem : Graph → Nest → Bounds → Costs → Result ℕ Fault → Type 0
  FromSystem graph nest bounds costs = After (SystemOf inputs graph nest bounds costs) FromSolution

  abbrev FromCosts : Graph → Nest → Bounds → Result ℕ Fault → Type 0
  FromCosts graph nest bounds = After (CostsOf inputs graph) (FromSystem graph nest bounds)

  abbrev FromBounds : Graph → Nest → Result ℕ Fault → Type 0
  FromBounds graph nest = After (BoundsOf inputs graph nest) (FromCosts graph nest)

  abbrev FromNest : Graph → Result ℕ Fault → Type 0
  FromNest graph = After (NestOf graph) (FromBounds graph)

  module _ (name : List ℕ) (graph : Graph) (is_graph : GraphOf inputs name (Ok graph)) where
    from_system : (nest : Nest) (bounds : Bounds) (costs : Costs) → AreBounds graph nest (stated inputs) bounds.of → IsOne (FromSystem graph nest bounds costs)
    from_system nest bounds costs are = after_by (SystemOf inputs graph nest bounds costs) FromSolution (system_one inputs graph nest bounds costs)
        (λ system is. solved_one system (has_places (graph_of inputs name graph is_graph).1 nest bounds costs inputs.facts system (system_of inputs graph nest bounds costs system is) are))

    from_nest : IsOne (FromNest graph)
    from_nest = after_by (NestOf graph) (FromBounds graph) (nest_one graph) (λ nest is_nest.
        after_by (BoundsOf inputs graph nest) (FromCosts graph nest) (bounds_one inputs graph nest) (λ bounds are_bounds.
        after_by (CostsOf inputs graph) (FromSystem graph nest bounds) (costs_one inputs graph) (λ costs are_costs. from_system nest bounds costs are_bounds)))

pub one_result : (inputs : Setting) (name : List ℕ) → IsOne (ChainResult inputs name)
one_result inputs name = after_by (GraphOf inputs name) (FromNest inputs) (graph_one inputs name) (λ graph is_graph. from_nest inputs name graph is_graph)

pub one_outcome : HasAtMostOneOutcome
one_outcome inputs name (Bound m) (Bound n) is also = ap (λ (b : ℕ). Bound b) (same_value (Ok m) m n refl (one_result inputs name (Ok m) (Ok n) is also))
one_outcome inputs name (Bound m) (Refused f) is also = absurd (not_both (Ok m) m f refl (one_result inputs name (Ok m) (Err f) is also))
one_outcome inputs name (Bound m) Memory is also = absurd also
one_outcome inputs name (Refused f) (Bound m) is also = absurd (not_both (Ok m) m f refl (one_result inputs name (Ok m) (Err f) also is))
one_outcome inputs name (Refused f) (Refused g) is also = ap (λ (x : Fault). Refused x) (same_fault (Err f) f g refl (one_result inputs name (Err f) (Err g) is also))
one_outcome inputs name (Refused f) Memory is also = absurd also
one_outcome inputs name Memory other is also = absurd is
