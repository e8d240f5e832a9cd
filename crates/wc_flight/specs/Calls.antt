-- What a call of a session leaves: what its pass has seen, and the entries that are the call's.
use Rattle.std.specs.Prelude.{ℕ, ◌≡◌, ◌<◌, ◌≤◌, Bool, true, false, List, [], ◌∷◌, ◌++◌, length, All, Result, MatchResult}
use Rattle.std.specs.List.{list_any}
use Rattle.atomic_table.specs.Seated.{TableId}
use Rattle.wc_model.specs.declared.entries.Asked.{Asked}
use Rattle.wc_model.specs.declared.entries.End.TheVariants.{Memory}
use Rattle.wc_model.specs.declared.entries.Entry.{Entry}
use Rattle.wc_model.specs.declared.entries.Entry.TheVariants.{Edit as EditEntry, NoFact, Pin, Start, Finish, Answer, List as ListEntry}
use Rattle.wc_model.specs.declared.entries.Listing.{Listing}
use Rattle.wc_model.specs.declared.inputs.Edit.{Edit}
use Rattle.wc_model.specs.declared.inputs.Edit.TheVariants.{Drop}
use Rattle.wc_model.specs.Workspace.Edits.{after, edits_of}
use Rattle.wc_model.specs.Workspace.Entries.{entries_of}
use Rattle.wc_model.specs.Workspace.History.{Chain}
use Rattle.wc_model.specs.Workspace.States.{Opening}
use Rattle.wc_core.specs.declared.answers.Edited.{Edited}
use Rattle.wc_core.specs.declared.answers.Edited.TheVariants.{Done, NoFact as NotLive}
use Rattle.wc_core.specs.Answers.{LeavesFree}
use Rattle.wc_core.specs.Turns.{OutcomeIs}
use Rattle.wc_pass.specs.Known.{IsPrefix, KnownPass}

-- A pass of the workspace. Its session is one of the workspace's, and what it has seen leaves that session
-- without an open ask.
pub record IsReady (own : TableId) (o : Opening) (pass : KnownPass) : Type 0 where
  pub desk_is : pass.desk ≡ own
  pub free : LeavesFree o pass.seen pass.session

-- What the pass had seen begins what it has seen now. The entries of its session beyond it are these, each once
-- and in this order.
pub record Gains (old new : KnownPass) (own : List Entry) : Type 0 where
  pub desk_stays : new.desk ≡ old.desk
  pub session_stays : new.session ≡ old.session
  pub before : IsPrefix old.seen new.seen
  pub entries : entries_of old.session new.seen ≡ entries_of old.session old.seen ++ own

-- What a call leaves of a pass.
abbrev pub StaysReady : TableId → Opening → KnownPass → KnownPass → Type 0
StaysReady own o old new = IsReady own o new × (new.session ≡ old.session)

-- how many accepted edits a pass has seen
abbrev pub edits_seen : KnownPass → ℕ
edits_seen pass = length (edits_of pass.seen)

-- The reply is that of the call's entries, and no older than what the pass had seen.

pub record Accepts (old new : KnownPass) (edit : Edit) (count : ℕ) : Type 0 where
  pub gains : Gains old new (EditEntry old.session count edit ∷ [])
  pub fresh : edits_seen old < count

pub record Refuses (old new : KnownPass) (edit : Edit) (at : ℕ) : Type 0 where
  pub number : ℕ
  pub drops : edit ≡ Drop number
  pub gains : Gains old new (NoFact old.session number at ∷ [])
  pub fresh : edits_seen old ≤ at

abbrev pub EditIs : KnownPass → KnownPass → Edit → Edited → Type 0
EditIs old new edit (Done count) = Accepts old new edit count
EditIs old new edit (NotLive at) = Refuses old new edit at

-- Where memory ran out, no entry was added; so of the other calls.
abbrev pub EditAnswers : {E : Type 0} → KnownPass → KnownPass → Edit → Result Edited E → Type 0
EditAnswers old new edit result = MatchResult result (EditIs old new edit) (λ _. Gains old new [])

pub record Lists (o : Opening) (old new : KnownPass) (listing : Listing) : Type 0 where
  pub gains : Gains old new (ListEntry old.session listing.at ∷ [])
  pub fresh : edits_seen old ≤ listing.at
  pub here : listing.at ≡ edits_seen new
  pub facts : listing.facts ≡ (after o.image listing.at new.seen).facts
  pub hardware : listing.hardware ≡ (after o.image listing.at new.seen).hardware

abbrev pub ListAnswers : {E : Type 0} → Opening → KnownPass → KnownPass → Result Listing E → Type 0
ListAnswers o old new result = MatchResult result (Lists o old new) (λ _. Gains old new [])

-- a start or a finish of a run that the session makes for a name
abbrev pub IsRunOf : ℕ → List ℕ → Entry → Type 0
IsRunOf session name (Start s kind n stamp) = (s ≡ session) × (n ≡ name)
IsRunOf session name (Finish s kind n stamp end) = (s ≡ session) × (n ≡ name)
IsRunOf session name _ = ⊥

-- the end of a run that found no memory
abbrev pub found_none : Entry → Bool
found_none (Finish session kind name stamp Memory) = true
found_none _ = false

-- The entries of an ask: its pin, its runs and its answer. The outcome is want of memory exactly where one of
-- these runs found none, and else the chain's on the inputs at the ask's count.
pub record Answers (chain : Chain) (o : Opening) (old new : KnownPass) (name : List ℕ) (asked : Asked) : Type 0 where
  pub runs : List Entry
  pub own : All (IsRunOf old.session name) runs
  pub outcome : OutcomeIs chain (list_any found_none runs) (after o.image asked.at new.seen) name asked.outcome
  pub gains : Gains old new (Pin old.session name asked.at ∷ runs ++ Answer old.session name asked.at asked.outcome ∷ [])
  pub fresh : edits_seen old ≤ asked.at

abbrev pub AskAnswers : {E : Type 0} → Chain → Opening → KnownPass → KnownPass → List ℕ → Result Asked E → Type 0
AskAnswers chain o old new name result = MatchResult result (Answers chain o old new name) (λ _. Gains old new [])
