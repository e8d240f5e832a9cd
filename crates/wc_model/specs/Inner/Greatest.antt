-- The greatest of some costs, of which each may be missing.
use Rattle.std.specs.Prelude.{ℕ, ◌≡◌, ◌+◌, ◌≤◌, max, List, Option, None, Some, IfSome, All, option_map, Contains, slice_get, slice_index_or}
use Rattle.wc_model.specs.declared.flow_system.SystemStep.{SystemStep}
use Rattle.wc_model.specs.Flow.Walks.{IsBest}

-- the cost of a step and of the best that is ahead of it
abbrev pub cost_ahead : List (Option ℕ) → Option ℕ → Option ℕ
cost_ahead best None = Some 0
cost_ahead best (Some q) = slice_index_or best q None

abbrev pub cost_through : List (Option ℕ) → SystemStep → Option ℕ
cost_through best s = option_map (λ ahead. s.cost + ahead) (cost_ahead best s.target)

abbrev pub option_max : Option ℕ → Option ℕ → Option ℕ
option_max None b = b
option_max (Some a) None = Some a
option_max (Some a) (Some b) = Some (max a b)

-- the greatest of what `f` gives for the elements, and nothing where it gives nothing for each
abbrev pub IsGreatestOf : {X : Type 0} → (X → Option ℕ) → List X → Option ℕ → Type 0
IsGreatestOf {X} f xs None = (x : X) → Contains xs x → f x ≡ None
IsGreatestOf {X} f xs (Some b) = ((x : X) × Contains xs x × (f x ≡ Some b)) × ((x : X) (c : ℕ) → Contains xs x → f x ≡ Some c → c ≤ b)

-- the costs that there are, are at most so much
abbrev pub AreAtMost : ℕ → List (Option ℕ) → Type 0
AreAtMost m best = All (λ b. IfSome b (λ n. n ≤ m)) best

-- the table has the greatest cost of a walk from a node to the end
abbrev pub HasBest : List SystemStep → List (Option ℕ) → ℕ → Type 0
HasBest steps best p = (b : Option ℕ) × (slice_get best p ≡ Some b) × IsBest steps p b
