-- What each phase of the analysis gives: a result for what the phases before gave, or the fault that it refuses with.
use Rattle.std.specs.Prelude.{ℕ, ◌≡◌, ◌<◌, ◌≤◌, ◌^◌, pos, List, [], map, Result, Ok, Err}
use Rattle.wc_base.specs.declared.faults.Fault.{Fault}
use Rattle.wc_base.specs.declared.faults.Fault.TheVariants.{NumberLimit, SystemLimit, PivotLimit, NoPath}
use Rattle.wc_model.specs.declared.flow_facts.Fact.{Fact}
use Rattle.wc_model.specs.declared.flow_system.Solution.{Solution}
use Rattle.wc_model.specs.declared.flow_system.System.{System}
use Rattle.wc_model.specs.declared.graphs.Bounds.{Bounds}
use Rattle.wc_model.specs.declared.graphs.Costs.{Costs}
use Rattle.wc_model.specs.declared.graphs.Graph.{Graph}
use Rattle.wc_model.specs.declared.graphs.Nest.{Nest}
use Rattle.wc_model.specs.Flow.Bounds.{AreBounds, IsBoundsFault}
use Rattle.wc_model.specs.Flow.Ceiling.{ceiling_of}
use Rattle.wc_model.specs.Flow.Cells.{cells_of}
use Rattle.wc_model.specs.Flow.Certificates.{SolutionHolds, IsBound}
use Rattle.wc_model.specs.Flow.Nest.{IsNest, IsNestFault}
use Rattle.wc_model.specs.Flow.RowResults.{RowOutcome, solved, no_path, number_limit, pivot_limit, IsRowOutcome}
use Rattle.wc_model.specs.Flow.Systems.{IsSystemOf}
use Rattle.wc_model.specs.Program.Graphs.{IsGraphOf, IsGraphFault}
use Rattle.wc_model.specs.Program.Words.{find_of}
use Rattle.wc_model.specs.Workspace.Edits.{Setting}

-- One phase after another: where the first one refuses, its fault is that of both.
pub data After {A B : Type 0} (First : Result A Fault → Type 0) (Second : A → Result B Fault → Type 0) : Result B Fault → Type 0 where
  stopped : (fault : Fault) → First (Err fault) → After First Second (Err fault)
  went_on : (a : A) (result : Result B Fault) → First (Ok a) → Second a result → After First Second result

abbrev pub stated : Setting → List Fact
stated inputs = map (λ f. f.1) inputs.facts

-- the function of a name, and its control-flow graph
abbrev pub FunctionOf : Setting → List ℕ → Result ℕ Fault → Type 0
FunctionOf inputs name result = find_of inputs.image name ≡ result

abbrev pub GraphAt : Setting → ℕ → Result Graph Fault → Type 0
GraphAt inputs entry (Ok graph) = IsGraphOf inputs.image (stated inputs) entry graph
GraphAt inputs entry (Err fault) = IsGraphFault inputs.image (stated inputs) entry fault

abbrev pub GraphOf : Setting → List ℕ → Result Graph Fault → Type 0
GraphOf inputs name = After (FunctionOf inputs name) (GraphAt inputs)

-- the loop nest, and the bounds of its loops
abbrev pub NestOf : Graph → Result Nest Fault → Type 0
NestOf graph (Ok nest) = IsNest graph nest
NestOf graph (Err fault) = IsNestFault graph fault

abbrev pub BoundsOf : Setting → Graph → Nest → Result Bounds Fault → Type 0
BoundsOf inputs graph nest (Ok bounds) = AreBounds graph nest (stated inputs) bounds.of
BoundsOf inputs graph nest (Err fault) = IsBoundsFault graph nest (stated inputs) fault

-- The flow system. It is refused where its ceiling is 2^100 or more; and, only with stated limits, where its tableau
-- has more than 250,000 cells.
abbrev pub IsTooBig : System → Type 0
IsTooBig system = (system.limits ≡ [] → ⊥) × (250000 < cells_of system)

pub record IsSystemResult (inputs : Setting) (graph : Graph) (nest : Nest) (bounds : Bounds) (costs : Costs) (system : System) : Type 0 where
  pub system_is : IsSystemOf graph nest bounds costs inputs.facts system
  pub below : ceiling_of nest system < 2 ^ 100
  pub fits_in : IsTooBig system → ⊥

pub data SystemOf (inputs : Setting) (graph : Graph) (nest : Nest) (bounds : Bounds) (costs : Costs) : Result System Fault → Type 0 where
  costly : (system : System) → IsSystemOf graph nest bounds costs inputs.facts system → 2 ^ 100 ≤ ceiling_of nest system → SystemOf inputs graph nest bounds costs (Err NumberLimit)
  big : (system : System) → IsSystemOf graph nest bounds costs inputs.facts system → ceiling_of nest system < 2 ^ 100 → IsTooBig system → SystemOf inputs graph nest bounds costs (Err SystemLimit)
  fine : (system : System) → IsSystemResult inputs graph nest bounds costs system → SystemOf inputs graph nest bounds costs (Ok system)

-- The solution. Without stated limits there is always one, over the denominator and the scale 1. With limits the row
-- machine decides whether there is one.
pub data IsRefusal : RowOutcome → Fault → Type 0 where
  too_wide : IsRefusal number_limit NumberLimit
  too_many : IsRefusal pivot_limit PivotLimit
  infeasible : {ray : _} → IsRefusal (no_path ray) NoPath

abbrev pub IsWhole : Solution → Type 0
IsWhole solution = (solution.den ≡ pos 1) × (solution.scale ≡ pos 1)

pub data SolutionOf (system : System) : Result Solution Fault → Type 0 where
  whole : (solution : Solution) → system.limits ≡ [] → SolutionHolds system solution → IsWhole solution → SolutionOf system (Ok solution)
  limited : (solution found : Solution) → (system.limits ≡ [] → ⊥) → IsRowOutcome system (solved found) → SolutionHolds system solution → SolutionOf system (Ok solution)
  refused : (outcome : RowOutcome) (fault : Fault) → (system.limits ≡ [] → ⊥) → IsRowOutcome system outcome → IsRefusal outcome fault → SolutionOf system (Err fault)

-- the bound is the floor of the optimum
abbrev pub BoundOf : System → Result ℕ Fault → Type 0
BoundOf system (Ok bound) = IsBound system bound
BoundOf system (Err fault) = ⊥
