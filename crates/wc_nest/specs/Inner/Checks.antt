-- What the tests find out of a graph before they ask for its nest.
use Rattle.std.specs.Prelude.{ℕ, suc, ◌≡◌, ◌<◌, ◌≤◌, true, false, Bool, List, Option, None, Some, IfSome, slice_get, slice_index_or}
use Rattle.wc_model.specs.declared.graphs.Step.{Step}
use Rattle.wc_model.specs.Program.Graphs.{LeadsIn}
use Rattle.wc_model.specs.Program.Reaching.{Reaches, Ends}

abbrev pub AreJoined : List Step → ℕ → List Bool → Type 0
AreJoined steps start flags = (k : ℕ) → slice_get flags k ≡ Some true → Reaches (LeadsIn steps) start k

abbrev pub StayJoined : List Step → List Bool → List Bool → Type 0
StayJoined steps old new = (start : ℕ) → AreJoined steps start old → AreJoined steps start new

abbrev pub AreEnding : List Step → List Bool → Type 0
AreEnding steps flags = (k : ℕ) → slice_get flags k ≡ Some true → Ends (LeadsIn steps) k

abbrev pub IsEnding : List Bool → Option ℕ → Type 0
IsEnding flags None = Unit {0}
IsEnding flags (Some q) = slice_index_or flags q false ≡ true

abbrev pub IsKnown : ℕ → Step → Type 0
IsKnown nodes s = (s.source < nodes) × IfSome s.target (λ q. q < nodes)

-- the step at a place leaves no node before that of the step before
abbrev pub IsAfter : List Step → ℕ → Type 0
IsAfter steps k = (i : ℕ) (s t : Step) → suc i ≡ k → slice_get steps i ≡ Some s → slice_get steps k ≡ Some t → s.source ≤ t.source

-- of the first steps
pub record AreOrdered (nodes : ℕ) (steps : List Step) (count : ℕ) : Type 0 where
  pub known : (k : ℕ) (s : Step) → k < count → slice_get steps k ≡ Some s → IsKnown nodes s
  pub after : (k : ℕ) → k < count → IsAfter steps k
