-- The eleven features come to the chain: its first fault is that of the kinds after it, and its bound is theirs.
use Rattle.std.proofs.Common.{ℕ, ◌≡◌, List, Result, Ok, Err, ap, subst}
use Rattle.wc_base.specs.declared.faults.Fault.{Fault}
use Rattle.wc_model.specs.declared.flow_system.Solution.{Solution}
use Rattle.wc_model.specs.declared.flow_system.System.{System}
use Rattle.wc_model.specs.declared.graphs.Bounds.{Bounds}
use Rattle.wc_model.specs.declared.graphs.Category.{Category}
use Rattle.wc_model.specs.declared.graphs.Costs.{Costs}
use Rattle.wc_model.specs.declared.graphs.Flags.{Flags}
use Rattle.wc_model.specs.declared.graphs.Graph.{Graph}
use Rattle.wc_model.specs.declared.graphs.LineMap.{LineMap}
use Rattle.wc_model.specs.declared.graphs.Nest.{Nest}
use Rattle.wc_model.specs.Cache.Ages.{AreMayFlags, AreMustFlags}
use Rattle.wc_model.specs.Cache.Categories.{AreCategories}
use Rattle.wc_model.specs.Cache.Costs.{AreCosts, upper_costs}
use Rattle.wc_model.specs.Cache.Lines.{line_map}
use Rattle.wc_model.specs.Workspace.Chain.{ChainResult}
use Rattle.wc_model.specs.Workspace.Edits.{Setting}
use Rattle.wc_model.specs.Workspace.Feature.{Always, Both, BoundFeature, BoundsFeature, CategoryFeature, CostFeature, GraphFeature, LinesFeature, MayFeature, MustFeature, NestFeature, SolutionFeature, SystemFeature}
use Rattle.wc_model.specs.Workspace.Phases.{After, BoundOf, BoundsOf, NestOf, SolutionOf, SystemOf, stopped, went_on}
use Rattle.wc_laws.proofs.OnePhaseLemmas.{IsOne}
use Rattle.wc_laws.proofs.OneOutcomeLemmas.{one_result}
use Rattle.wc_laws.proofs.OneSolutionLemmas.{fault_once, solution_apart}
use Rattle.wc_laws.proofs.JoinedLemmas.{IsOneFault, after_at, after_fault_one, after_stop, both_one, both_parts, both_stop, value_once}
use Rattle.wc_laws.proofs.OneFeatureLemmas.{one_graph, one_pair, one_system}

module _ (inputs : Setting) (name : List ℕ) where
  abbrev IsGraph : Result Graph Fault → Type 0
  IsGraph = GraphFeature inputs name

  abbrev IsNest : Result Nest Fault → Type 0
  IsNest = NestFeature inputs name

  abbrev IsPair : Result (Graph × Nest) Fault → Type 0
  IsPair = Both IsGraph IsNest

  abbrev IsLined : Result (Graph × LineMap) Fault → Type 0
  IsLined = Both IsGraph (LinesFeature inputs name)

  abbrev IsFlagged : Result (((Graph × LineMap) × Flags) × Flags) Fault → Type 0
  IsFlagged = Both (Both IsLined (MustFeature inputs name)) (MayFeature inputs name)

  abbrev IsCost : Result Costs Fault → Type 0
  IsCost = CostFeature inputs name

  -- what a system is made of
  abbrev IsGiven : Result (((Graph × Nest) × Bounds) × Costs) Fault → Type 0
  IsGiven = Both (Both IsPair (BoundsFeature inputs name)) IsCost

  -- Where a feature is a fault, the chain stops with it.
  abbrev Stops : Fault → Type 0
  Stops fault = ChainResult inputs name (Err fault)

  graph_stop : (f : Fault) → IsGraph (Err f) → Stops f
  graph_stop f is = stopped f is

  nest_stop : (f : Fault) → IsNest (Err f) → Stops f
  nest_stop = after_stop IsGraph NestOf Stops graph_stop (λ graph f is fails. went_on graph (Err f) is (stopped f fails))

  pair_stop : (f : Fault) → IsPair (Err f) → Stops f
  pair_stop = both_stop IsGraph IsNest Stops graph_stop nest_stop

  nest_of : (graph : Graph) (nest : Nest) → IsGraph (Ok graph) → IsNest (Ok nest) → NestOf graph (Ok nest)
  nest_of graph nest is of = after_at IsGraph NestOf (one_graph inputs name) graph is (Ok nest) of

  bounds_stop : (f : Fault) → BoundsFeature inputs name (Err f) → Stops f
  bounds_stop = after_stop IsPair (λ given. BoundsOf inputs given.0 given.1) Stops pair_stop (λ given f is fails.
      let parts = both_parts IsGraph IsNest given is in
      went_on given.0 (Err f) parts.0 (went_on given.1 (Err f) (nest_of given.0 given.1 parts.0 parts.1) (stopped f fails)))

  lines_stop : (f : Fault) → LinesFeature inputs name (Err f) → Stops f
  lines_stop = after_stop IsGraph (λ graph. Always (λ map. map ≡ line_map graph inputs.hardware.cache)) Stops graph_stop (λ graph f is fails. absurd fails)

  lined_stop : (f : Fault) → IsLined (Err f) → Stops f
  lined_stop = both_stop IsGraph (LinesFeature inputs name) Stops graph_stop lines_stop

  must_stop : (f : Fault) → MustFeature inputs name (Err f) → Stops f
  must_stop = after_stop IsLined (λ given. Always (AreMustFlags given.0 inputs.hardware.cache)) Stops lined_stop (λ given f is fails. absurd fails)

  may_stop : (f : Fault) → MayFeature inputs name (Err f) → Stops f
  may_stop = after_stop IsLined (λ given. Always (AreMayFlags given.0 inputs.hardware.cache)) Stops lined_stop (λ given f is fails. absurd fails)

  flagged_stop : (f : Fault) → IsFlagged (Err f) → Stops f
  flagged_stop = both_stop (Both IsLined (MustFeature inputs name)) (MayFeature inputs name) Stops (both_stop IsLined (MustFeature inputs name) Stops lined_stop must_stop) may_stop

  category_stop : (f : Fault) → CategoryFeature inputs name (Err f) → Stops f
  category_stop = after_stop IsFlagged (λ given. Always (AreCategories given.0.0.0 inputs.hardware.cache)) Stops flagged_stop (λ given f is fails. absurd fails)

  cost_stop : (f : Fault) → IsCost (Err f) → Stops f
  cost_stop = after_stop (Both IsGraph (CategoryFeature inputs name)) (λ given. Always (λ costs. costs.of ≡ upper_costs given.0 given.1 inputs.hardware.cycles)) Stops
      (both_stop IsGraph (CategoryFeature inputs name) Stops graph_stop category_stop) (λ given f is fails. absurd fails)

  given_stop : (f : Fault) → IsGiven (Err f) → Stops f
  given_stop = both_stop (Both IsPair (BoundsFeature inputs name)) IsCost Stops (both_stop IsPair (BoundsFeature inputs name) Stops pair_stop bounds_stop) cost_stop

  -- The features of one name are of one graph and one nest.
  bounds_of : (pair : Graph × Nest) (bounds : Bounds) → IsPair (Ok pair) → BoundsFeature inputs name (Ok bounds) → BoundsOf inputs pair.0 pair.1 (Ok bounds)
  bounds_of pair bounds is of = after_at IsPair (λ given. BoundsOf inputs given.0 given.1) (one_pair inputs name) pair is (Ok bounds) of

  categories_of : (graph : Graph) (categories : List Category) → IsGraph (Ok graph) → CategoryFeature inputs name (Ok categories) → AreCategories graph inputs.hardware.cache categories
  categories_of graph categories is (went_on given _ all of) =
      let lined = (both_parts IsLined (MustFeature inputs name) given.0 (both_parts (Both IsLined (MustFeature inputs name)) (MayFeature inputs name) given all).0).0 in
      subst (λ (g : Graph). AreCategories g inputs.hardware.cache categories)
      (value_once (one_graph inputs name) given.0.0.0 graph (both_parts IsGraph (LinesFeature inputs name) given.0.0 lined).0 is) of

  costs_of : (graph : Graph) (costs : Costs) → IsGraph (Ok graph) → IsCost (Ok costs) → AreCosts graph inputs.hardware costs
  costs_of graph costs is (went_on given _ both of) =
      let parts = both_parts IsGraph (CategoryFeature inputs name) given both in
      let same : given.0 ≡ graph = value_once (one_graph inputs name) given.0 graph parts.0 is in
      (given.1, categories_of graph given.1 is parts.1, subst (λ (g : Graph). costs.of ≡ upper_costs g given.1 inputs.hardware.cycles) same of)

  -- The chain from the system on.
  abbrev Rest : System → Result ℕ Fault → Type 0
  Rest system = After (SolutionOf system) (λ solution. BoundOf system)

  to_system : (given : ((Graph × Nest) × Bounds) × Costs) → IsGiven (Ok given) → (r : Result ℕ Fault)
      → After (SystemOf inputs given.0.0.0 given.0.0.1 given.0.1 given.1) Rest r → ChainResult inputs name r
  to_system given all r rest =
      let parts = both_parts (Both IsPair (BoundsFeature inputs name)) IsCost given all in
      let bounded = both_parts IsPair (BoundsFeature inputs name) given.0 parts.0 in
      let pair = both_parts IsGraph IsNest given.0.0 bounded.0 in
      went_on given.0.0.0 r pair.0 (went_on given.0.0.1 r (nest_of given.0.0.0 given.0.0.1 pair.0 pair.1)
      (went_on given.0.1 r (bounds_of given.0.0 given.0.1 bounded.0 bounded.1)
      (went_on given.1 r (costs_of given.0.0.0 given.1 pair.0 parts.1) rest)))

  system_stop : (f : Fault) → SystemFeature inputs name (Err f) → Stops f
  system_stop = after_stop IsGiven (λ given. SystemOf inputs given.0.0.0 given.0.0.1 given.0.1 given.1) Stops given_stop
      (λ given f is fails. to_system given is (Err f) (stopped f fails))

  system_goes : (system : System) → SystemFeature inputs name (Ok system) → (r : Result ℕ Fault) → Rest system r → ChainResult inputs name r
  system_goes system (went_on given _ all of) r rest = to_system given all r (went_on system r of rest)

  solution_stop : (f : Fault) → SolutionFeature inputs name (Err f) → Stops f
  solution_stop = after_stop (Both IsPair (SystemFeature inputs name)) (λ given. SolutionOf given.1) Stops
      (both_stop IsPair (SystemFeature inputs name) Stops pair_stop system_stop)
      (λ given f is fails. system_goes given.1 (both_parts IsPair (SystemFeature inputs name) given is).1 (Err f) (stopped f fails))

  pub solution_of : (system : System) (solution : Solution) → SystemFeature inputs name (Ok system) → SolutionFeature inputs name (Ok solution) → SolutionOf system (Ok solution)
  solution_of system solution is (went_on given _ both of) =
      subst (λ (s : System). SolutionOf s (Ok solution))
      (value_once (one_system inputs name) given.1 system (both_parts IsPair (SystemFeature inputs name) given both).1 is) of

  -- a feature of the last kind is a result of the chain
  pub bound_tells : (r : Result ℕ Fault) → BoundFeature inputs name r → ChainResult inputs name r
  bound_tells r (stopped f is) = both_stop (SystemFeature inputs name) (SolutionFeature inputs name) Stops system_stop solution_stop f is
  bound_tells r (went_on given _ both of) =
      let parts = both_parts (SystemFeature inputs name) (SolutionFeature inputs name) given both in
      system_goes given.0 parts.0 r (went_on given.1 r (solution_of given.0 given.1 parts.0 parts.1) of)

  pub one_bound : IsOne (BoundFeature inputs name)
  one_bound r s is also = one_result inputs name r s (bound_tells r is) (bound_tells s also)

  fault_one : (system : System) → IsOneFault (SolutionOf system)
  fault_one system f (Ok solution) is also = absurd (solution_apart system solution f also is)
  fault_one system f (Err g) is also = ap (λ (x : Fault). Err x) (fault_once system f g is also)

  pub one_solution_fault : IsOneFault (SolutionFeature inputs name)
  one_solution_fault =
      after_fault_one (Both IsPair (SystemFeature inputs name)) (λ given. SolutionOf given.1)
      (both_one IsPair (SystemFeature inputs name) (one_pair inputs name) (one_system inputs name)) (λ given. fault_one given.1)
