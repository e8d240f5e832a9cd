-- The works at home, the one that came home last first, and the runs that are out.
use Rattle.std.specs.Prelude.{ℕ, ◌≡◌, ◌==◌, Bool, List, ◌∷◌, [], ◌++◌, map, filter, find, Some}
use Rattle.wc_model.specs.Workspace.Firsts.{without_first}
use Rattle.wc_model.specs.Workspace.History.{key_with}
use Rattle.wc_model.specs.Workspace.States.{Run, own_run}

-- `home`: the kind of each work, and how often it has run.
pub record KnownWorks : Type 0 where
  pub home : List (ℕ × ℕ)
  pub out : List Run

abbrev pub is_of : ℕ → ℕ × ℕ → Bool
is_of kind work = work.0 == kind

-- how often the works of a kind have run
abbrev pub runs_with : ℕ → List (ℕ × ℕ) → List ℕ
runs_with kind home = map (λ w. w.1) (filter (is_of kind) home)

-- The work of a kind that came home last is taken out.
pub record IsTaken (kind runs : ℕ) (old new : List (ℕ × ℕ)) : Type 0 where
  pub found : find (is_of kind) old ≡ Some (kind, runs)
  pub rest : new ≡ without_first (is_of kind) old

abbrev pub run_with : ℕ → ℕ → List ℕ → ℕ → ℕ → Run
run_with session kind name stamp runs = record { session = session; key = key_with kind name stamp; runs = runs }

-- A work of a kind goes out for a session.
pub record IsSent (old new : KnownWorks) (session kind : ℕ) (name : List ℕ) (stamp runs : ℕ) : Type 0 where
  pub taken : IsTaken kind runs old.home new.home
  pub out : new.out ≡ old.out ++ run_with session kind name stamp runs ∷ []

-- A run of a session is out.
abbrev pub IsFlying : ℕ → List Run → Type 0
IsFlying session out = (run : Run) × (own_run session out ≡ Some run)
