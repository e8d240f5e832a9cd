-- What `solve` gives: a state for each node, and these are the most precise solution.
use Rattle.std.specs.Prelude.{ℕ, ◌≡◌, ◌<◌, List, Option, None, Some, IfSome, All, length, slice_index_or}
use Rattle.wc_fix.specs.declared.lattice.Lattice.{Ghosts}
use Rattle.wc_model.specs.declared.graphs.Graph.{Graph}
use Rattle.wc_model.specs.declared.graphs.Step.{Step}
use Rattle.wc_model.specs.Cache.Ages.{IsMostPrecise}

module _ {L : Type 0} (lat : Ghosts L) where
  -- values of one shape, made for equally many lines
  abbrev pub Alike : L → L → Type 0
  Alike a b = (lat.shape b ≡ lat.shape a) × (lat.lines b ≡ lat.lines a)

  abbrev pub AllAlike : L → List (Option L) → Type 0
  AllAlike a states = (p : ℕ) (b : L) → slice_index_or states p None ≡ Some b → Alike a b

  -- the states of the most precise solution from `first` at the start
  pub record IsSolved (nodes : ℕ) (steps : List Step) (access : List (Option ℕ)) (start : ℕ) (first : L) (states : List (Option L)) : Type 0 where
    pub count : length states ≡ nodes
    pub solution : ℕ → lat.State
    pub most : IsMostPrecise lat.precise lat.accessed steps access start (lat.state first) nodes solution
    pub each : (p : ℕ) → p < nodes → (a : L) × (slice_index_or states p None ≡ Some a) × (lat.state a ≡ solution p)
    pub same : AllAlike first states

  -- of a graph
  abbrev pub IsSolutionOf : Graph → List (Option ℕ) → L → List (Option L) → Type 0
  IsSolutionOf graph access first states = IsSolved (length graph.nodes) graph.steps access graph.start first states

  -- the lines that nodes fetch are of the value's shape
  abbrev pub FitIn : L → List (Option ℕ) → Type 0
  FitIn first access = All (λ x. IfSome x (λ line. line < lat.lines first)) access
