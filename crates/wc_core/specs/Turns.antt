-- What comes next for an open ask.
use Rattle.std.specs.Prelude.{ℕ, Bool, true, false, not, ◌||◌, ◌==◌, if◌then◌else◌, List, [], ◌∷◌, find, Option, None, Some, ◌≡◌}
use Rattle.std.specs.Option.{option_map, option_map_or}
use Rattle.wc_model.specs.declared.values.Outcome.{Outcome}
use Rattle.wc_model.specs.declared.values.Outcome.TheVariants.{Memory}
use Rattle.wc_model.specs.Workspace.Closures.{order_of}
use Rattle.wc_model.specs.Workspace.Edits.{Setting}
use Rattle.wc_model.specs.Workspace.History.{Chain, bound_kind}
use Rattle.wc_model.specs.Workspace.States.{Opening, Key, State, Run, Ask, same_key, key_of, home_of, within_reach}

pub data Turn : Type 0 where
  answers : Turn
  starts : ℕ → Turn
  waits : ℕ → Turn

-- The first kind in the registry's order that isn't within reach.
abbrev pub first_missing : Opening → State → Ask → List ℕ → Option ℕ
first_missing o st ask kinds = find (λ k. not (within_reach o st ask k)) kinds

-- The session of the run of a key, and that of the earliest run of a kind.
abbrev pub runner_of_key : Key → List Run → Option ℕ
runner_of_key key out = option_map (λ r. r.session) (find (λ r. same_key r.key key) out)

abbrev pub runner_of_kind : ℕ → List Run → ℕ
runner_of_kind kind out = option_map_or (λ r. r.session) (find (λ r. r.key.kind == kind) out) 0

abbrev pub at_home : ℕ → List ℕ → List Run → Turn
at_home kind [] out = waits (runner_of_kind kind out)
at_home kind (_ ∷ _) out = starts kind

abbrev pub unless_running : ℕ → List ℕ → List Run → Option ℕ → Turn
unless_running kind home out None = at_home kind home out
unless_running kind home out (Some session) = waits session

abbrev pub turn_for : Opening → State → Ask → Option ℕ → Turn
turn_for o st ask None = answers
turn_for o st ask (Some kind) =
    unless_running kind (home_of kind st.home) st.out (runner_of_key (key_of o st ask kind) st.out)

-- An ask answers where one of its runs found no memory or the bound is within reach. Else it is the turn of the first
-- kind out of reach: it waits where a run of that key is out or no work of the kind is at home, and else it starts.
abbrev pub next_turn : Opening → State → Ask → Turn
next_turn o st ask =
    if ask.memory || within_reach o st ask bound_kind then answers else turn_for o st ask (first_missing o st ask (order_of o.kinds))

-- The outcome is want of memory exactly where one of the ask's own runs found none, and else the chain's.
abbrev pub OutcomeIs : Chain → Bool → Setting → List ℕ → Outcome → Type 0
OutcomeIs chain true inputs name outcome = outcome ≡ Memory
OutcomeIs chain false inputs name Memory = ⊥
OutcomeIs chain false inputs name outcome = chain inputs name outcome
