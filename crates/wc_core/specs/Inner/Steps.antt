-- How the core finds out what an ask does next.
use Rattle.std.specs.Prelude.{ℕ, ◌≡◌, ◌||◌, ◌==◌, if◌then◌else◌, Bool, List, map, find, Option, None, Some, is_some}
use Rattle.std.specs.Option.{option_and_then}
use Rattle.wc_model.specs.declared.values.Outcome.{Outcome}
use Rattle.wc_model.specs.declared.values.Outcome.TheVariants.{Memory}
use Rattle.wc_model.specs.Workspace.Edits.{after}
use Rattle.wc_model.specs.Workspace.History.{Chain, key_with, state_after}
use Rattle.wc_model.specs.Workspace.States.{State, in_store, stamp_at}
use Rattle.wc_core.specs.declared.answers.Step.{Step}
use Rattle.wc_core.specs.declared.answers.Step.TheVariants.{Answers, Starts, Waits}
use Rattle.wc_core.specs.Answers.{IsNext}
use Rattle.wc_core.specs.Features.{arc_at, value_at, value_of}
use Rattle.wc_core.specs.Inner.Lines.{copy_for, row_of}
use Rattle.wc_core.specs.Inner.Moves.{Had, Lines}
use Rattle.wc_core.specs.Turns.{Turn, OutcomeIs, answers, starts, waits}
use Rattle.wc_core.specs.Views.{Known, KnownTicket}

abbrev pub bound_key : List (ℕ × ℕ) → Option (ℕ × ℕ)
bound_key keys = find (λ k. k.0 == 11) keys

abbrev pub is_reached : {V : Type 0} → List ℕ → Had V → Lines V → ℕ × ℕ → Bool
is_reached name had lines key = is_some (arc_at key.0 had) || in_store (key_with key.0 name key.1) (map row_of lines)

-- the ask's own value, or else its session's copy in the store
abbrev pub first_of : {A : Type 0} → Option A → Option A → Option A
first_of None rest = rest
first_of (Some a) rest = Some a

abbrev pub told : {V : Type 0} → (V → Option Outcome) → List ℕ → ℕ → Had V → Lines V → ℕ × ℕ → Option Outcome
told outcome_of name session had lines key = option_and_then outcome_of (first_of (value_at key.0 had) (value_of (copy_for name key.0 key.1 session lines)))

-- want of memory where a run of the ask found none, or else what the bound tells
abbrev pub outcome_now : {V : Type 0} → (V → Option Outcome) → KnownTicket V → Lines V → List (ℕ × ℕ) → Option Outcome
outcome_now outcome_of t lines keys = if t.memory then Some Memory else option_and_then (told outcome_of t.name t.session t.had lines) (bound_key keys)

-- A step that starts a run of a key or waits for a session.
abbrev pub step_is : ℕ × ℕ → Step → Turn → Type 0
step_is key (Answers outcome) turn = ⊥
step_is key (Starts kind stamp) turn = (kind ≡ key.0) × (stamp ≡ key.1) × (turn ≡ starts kind)
step_is key (Waits session) turn = turn ≡ waits session

abbrev pub IsStep : {V : Type 0} → Chain → Known → KnownTicket V → Step → Type 0
IsStep chain k t (Answers outcome) = IsNext k t.session answers × OutcomeIs chain t.memory (after k.opening.image t.at k.history) t.name outcome
IsStep chain k t (Starts kind stamp) = IsNext k t.session (starts kind) × ((st : State) → state_after k.opening k.history ≡ Some st → stamp ≡ stamp_at k.opening st kind t.at)
IsStep chain k t (Waits session) = IsNext k t.session (waits session)
