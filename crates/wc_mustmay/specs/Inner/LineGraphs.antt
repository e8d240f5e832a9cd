-- Graphs of one node after the other, for the tests.
use Rattle.std.specs.Prelude.{ℕ, ◌≡◌, ◌+◌, ◌*◌, ◌<◌, ◌≤◌, nat_lt, if◌then◌else◌, true, false, List, [], ◌∷◌, Option, None, Some, IfSome, All, AllPairs, Contains, length}
use Rattle.wc_model.specs.declared.graphs.Node.{Node}
use Rattle.wc_model.specs.declared.graphs.Step.{Step}

pub record AreOfOneStack (count : ℕ) (nodes : List Node) : Type 0 where
  pub counted : length nodes ≡ count
  pub placed : All (λ n. n.context < 1) nodes

abbrev pub next_of : ℕ → ℕ → Option ℕ
next_of nodes source = if nat_lt (source + 1) nodes then Some (source + 1) else None

abbrev pub onward_at : ℕ → ℕ → Step
onward_at nodes source = record { source = source; target = next_of nodes source; taken = false }

abbrev pub steps_at : ℕ → ℕ → Option ℕ → List Step
steps_at nodes source None = onward_at nodes source ∷ []
steps_at nodes source (Some target) = record { source = source; target = Some target; taken = true } ∷ onward_at nodes source ∷ []

-- the steps of the nodes below `count`
pub record IsLine (nodes count : ℕ) (steps : List Step) : Type 0 where
  pub few : length steps ≤ 2 * count
  pub sources : All (λ s. s.source < count) steps
  pub targets : All (λ s. IfSome s.target (λ q. q < nodes)) steps
  pub sorted : AllPairs (λ s t. s.source ≤ t.source) steps
  pub straight : (j : ℕ) → j < count → Contains steps (onward_at nodes j)
