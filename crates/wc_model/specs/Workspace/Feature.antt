-- What a value has to be for inputs and a name: the feature of its kind. After the features of OTAWA 2010.
use Rattle.std.specs.Prelude.{ℕ, ◌≡◌, List, Result, Ok, Err, Option, None, Some}
use Rattle.wc_base.specs.declared.faults.Fault.{Fault}
use Rattle.wc_model.specs.declared.flow_system.Solution.{Solution}
use Rattle.wc_model.specs.declared.flow_system.System.{System}
use Rattle.wc_model.specs.declared.graphs.Bounds.{Bounds}
use Rattle.wc_model.specs.declared.graphs.Category.{Category}
use Rattle.wc_model.specs.declared.graphs.Costs.{Costs}
use Rattle.wc_model.specs.declared.graphs.Flags.{Flags}
use Rattle.wc_model.specs.declared.graphs.Graph.{Graph}
use Rattle.wc_model.specs.declared.graphs.LineMap.{LineMap}
use Rattle.wc_model.specs.declared.graphs.Nest.{Nest}
use Rattle.wc_model.specs.declared.values.Outcome.{Outcome}
use Rattle.wc_model.specs.declared.values.Outcome.TheVariants as outcome
use Rattle.wc_model.specs.declared.values.Value.{Value}
use Rattle.wc_model.specs.declared.values.Value.TheVariants as value
use Rattle.wc_model.specs.Cache.Ages.{AreMustFlags, AreMayFlags}
use Rattle.wc_model.specs.Cache.Categories.{AreCategories}
use Rattle.wc_model.specs.Cache.Costs.{upper_costs}
use Rattle.wc_model.specs.Cache.Lines.{line_map}
use Rattle.wc_model.specs.Workspace.Edits.{Setting}
use Rattle.wc_model.specs.Workspace.Phases.{After, GraphOf, NestOf, BoundsOf, SystemOf, SolutionOf, BoundOf}

-- Two required features: the first one that is a fault, in their order, is the fault of both.
abbrev pub joined : {A B : Type 0} → Result A Fault → Result B Fault → Result (A × B) Fault
joined (Err fault) b = Err fault
joined (Ok a) (Err fault) = Err fault
joined (Ok a) (Ok b) = Ok (a, b)

abbrev pub Both : {A B : Type 0} → (Result A Fault → Type 0) → (Result B Fault → Type 0) → Result (A × B) Fault → Type 0
Both {A} {B} First Second result = (a : Result A Fault) × (b : Result B Fault) × First a × Second b × (joined a b ≡ result)

-- a phase that refuses nothing
abbrev pub Always : {A : Type 0} → (A → Type 0) → Result A Fault → Type 0
Always Is (Ok a) = Is a
Always Is (Err fault) = ⊥

-- The feature of each kind, from those that it requires, in the order of its requirements.
module _ (inputs : Setting) (name : List ℕ) where
  abbrev pub GraphFeature : Result Graph Fault → Type 0
  GraphFeature = GraphOf inputs name

  abbrev pub NestFeature : Result Nest Fault → Type 0
  NestFeature = After GraphFeature NestOf

  abbrev pub BoundsFeature : Result Bounds Fault → Type 0
  BoundsFeature = After (Both GraphFeature NestFeature) (λ given. BoundsOf inputs given.0 given.1)

  abbrev pub LinesFeature : Result LineMap Fault → Type 0
  LinesFeature = After GraphFeature (λ graph. Always (λ map. map ≡ line_map graph inputs.hardware.cache))

  abbrev pub MustFeature : Result Flags Fault → Type 0
  MustFeature = After (Both GraphFeature LinesFeature) (λ given. Always (AreMustFlags given.0 inputs.hardware.cache))

  abbrev pub MayFeature : Result Flags Fault → Type 0
  MayFeature = After (Both GraphFeature LinesFeature) (λ given. Always (AreMayFlags given.0 inputs.hardware.cache))

  abbrev pub CategoryFeature : Result (List Category) Fault → Type 0
  CategoryFeature = After (Both (Both (Both GraphFeature LinesFeature) MustFeature) MayFeature) (λ given. Always (AreCategories given.0.0.0 inputs.hardware.cache))

  abbrev pub CostFeature : Result Costs Fault → Type 0
  CostFeature = After (Both GraphFeature CategoryFeature) (λ given. Always (λ costs. costs.of ≡ upper_costs given.0 given.1 inputs.hardware.cycles))

  abbrev pub SystemFeature : Result System Fault → Type 0
  SystemFeature = After (Both (Both (Both GraphFeature NestFeature) BoundsFeature) CostFeature) (λ given. SystemOf inputs given.0.0.0 given.0.0.1 given.0.1 given.1)

  abbrev pub SolutionFeature : Result Solution Fault → Type 0
  SolutionFeature = After (Both (Both GraphFeature NestFeature) SystemFeature) (λ given. SolutionOf given.1)

  abbrev pub BoundFeature : Result ℕ Fault → Type 0
  BoundFeature = After (Both SystemFeature SolutionFeature) (λ given. BoundOf given.0)

  -- a value of a kind
  abbrev pub IsFeature : ℕ → Value → Type 0
  IsFeature kind (value.Graph result) = (kind ≡ 1) × GraphFeature result
  IsFeature kind (value.Nest result) = (kind ≡ 2) × NestFeature result
  IsFeature kind (value.Bounds result) = (kind ≡ 3) × BoundsFeature result
  IsFeature kind (value.Lines result) = (kind ≡ 4) × LinesFeature result
  IsFeature kind (value.Must result) = (kind ≡ 5) × MustFeature result
  IsFeature kind (value.May result) = (kind ≡ 6) × MayFeature result
  IsFeature kind (value.Category result) = (kind ≡ 7) × CategoryFeature result
  IsFeature kind (value.Cost result) = (kind ≡ 8) × CostFeature result
  IsFeature kind (value.System result) = (kind ≡ 9) × SystemFeature result
  IsFeature kind (value.Solution result) = (kind ≡ 10) × SolutionFeature result
  IsFeature kind (value.Bound result) = (kind ≡ 11) × BoundFeature result

-- the outcome that a value tells: a bound and its faults alone do
abbrev pub outcome_of : Value → Option Outcome
outcome_of (value.Bound (Ok bound)) = Some (outcome.Bound bound)
outcome_of (value.Bound (Err fault)) = Some (outcome.Fault fault)
outcome_of _ = None
