-- The bounds of the first heads, and the least address of one that has none.
use Rattle.std.specs.Prelude.{ℕ, ◌+◌, map, ◌≡◌, ◌<◌, ◌≤◌, nat_lt, if◌then◌else◌, List, Option, None, Some, slice_get, length}
use Rattle.wc_model.specs.declared.flow_facts.Fact.{Fact}
use Rattle.wc_model.specs.declared.graphs.Graph.{Graph}
use Rattle.wc_model.specs.declared.graphs.Head.{Head}
use Rattle.wc_model.specs.declared.graphs.Nest.{Nest}
use Rattle.wc_model.specs.declared.graphs.Node.{Node}
use Rattle.wc_model.specs.Flow.Bounds.{StandsFor, IsBoundOf, HasNoBound, IsUnbounded}
use Rattle.wc_model.specs.Program.Positions.{Position}
use Rattle.wc_bounds.specs.declared.tallies.Tally.{Tally}

-- the lesser of the least address so far, if there is one, and another
abbrev pub lesser_at : Option ℕ → ℕ → ℕ
lesser_at None at = at
lesser_at (Some before) at = if nat_lt before at then before else at

module _ (graph : Graph) (nest : Nest) (facts : List Fact) where
  abbrev pub HasBound : Head → ℕ → Type 0
  HasBound head bound = (p : Position) × StandsFor graph head p × IsBoundOf facts p bound

  -- what is stated for a head: for any position that it stands for
  abbrev pub IsStatedFor : Head → Option ℕ → Type 0
  IsStatedFor head None = (p : Position) × StandsFor graph head p × ((q : Position) → StandsFor graph head q → HasNoBound facts q)
  IsStatedFor head (Some bound) = HasBound head bound × ((q : Position) → StandsFor graph head q → HasNoBound facts q → ⊥)

  pub record IsTally (k : ℕ) (tally : Tally) : Type 0 where
    pub low : (j : ℕ) (head : Head) (p : Position) → j < k → slice_get nest.heads j ≡ Some head → StandsFor graph head p → HasNoBound facts p → (at : ℕ) × (tally.least ≡ Some at) × (at ≤ p.pc)
    pub unbounded : (at : ℕ) → tally.least ≡ Some at → (p : Position) × IsUnbounded graph nest facts p × (p.pc ≡ at)
    pub counted : tally.least ≡ None → length tally.of.items ≡ k
    pub bounded : tally.least ≡ None → (j : ℕ) (head : Head) (bound : ℕ) → slice_get nest.heads j ≡ Some head → slice_get tally.of.items j ≡ Some bound → HasBound head bound

-- one more head is counted
abbrev pub IsCounted : Graph → Nest → List (ℕ × Fact) → ℕ → Tally → Tally → Type 0
IsCounted graph nest facts k old new = IsTally graph nest (map (λ f. f.1) facts) k old → IsTally graph nest (map (λ f. f.1) facts) (k + 1) new

-- the node of the head at a place
abbrev pub IsNodeOf : Graph → Nest → ℕ → Node → Type 0
IsNodeOf graph nest k node = (head : Head) × (slice_get nest.heads k ≡ Some head) × (slice_get graph.nodes head.node ≡ Some node)
