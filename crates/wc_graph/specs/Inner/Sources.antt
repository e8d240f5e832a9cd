-- The steps of numbered positions, found from their targets.
use Rattle.std.specs.Prelude.{ℕ, ◌≡◌, ◌+◌, ◌<◌, ◌↔◌, List, [], ◌∷◌, ◌++◌, map, Option, None, Some, IfSome, length, slice_get}
use Rattle.wc_graph.specs.declared.frames.Leap.{Leap}
use Rattle.wc_graph.specs.declared.sources.Sources.{Sources}
use Rattle.wc_graph.specs.Inner.Lists.{Has}

abbrev pub Edge : Type 0
Edge = ℕ × Option ℕ

abbrev pub edge_of : ℕ → Leap → Edge
edge_of source leap = (source, leap.target)

-- the steps of the positions from a number on
abbrev pub edges_from : ℕ → List (List Leap) → List Edge
edges_from n [] = []
edges_from n (own ∷ later) = map (edge_of n) own ++ edges_from (n + 1) later

abbrev pub AreTargets : ℕ → List Leap → Type 0
AreTargets count leaps = (leap : Leap) → Has leaps leap → IfSome leap.target (λ t. t < count)

pub record AreSources (count : ℕ) (edges : List Edge) (sources : Sources) : Type 0 where
  pub counted : length sources.into ≡ count
  pub exits : (k : ℕ) → Has sources.exits.items k ↔ Has edges (k, None)
  pub into : (t : ℕ) (v : List ℕ) → slice_get sources.into t ≡ Some v → (k : ℕ) → Has v k ↔ Has edges (k, Some t)

-- some steps more were added
abbrev pub Takes : List Edge → Sources → Sources → Type 0
Takes more old new = (edges : List Edge) → AreSources (length old.into) edges old → AreSources (length old.into) (edges ++ more) new
