-- What the calls of a core answer.
use Rattle.std.specs.Prelude.{ℕ, ◌+◌, true, false, List, [], ◌∷◌, ◌++◌, length, reverse, Option, None, Some, ◌≡◌, ◌≢◌, ◌==◌, Bool, is_none, MatchOption}
use Rattle.std.specs.Global.{Global}
use Rattle.std.specs.declared.sync.Arc.{Arc}
use Rattle.wc_model.specs.declared.entries.Entry.{Entry}
use Rattle.wc_model.specs.declared.entries.Entry.TheVariants.{Edit as EditEntry, NoFact, Pin, Start, Finish, Answer, List as ListEntry}
use Rattle.wc_model.specs.declared.entries.End.{End}
use Rattle.wc_model.specs.declared.entries.End.TheVariants.{Kept as KeptEnd, Dropped as DroppedEnd, Memory as MemoryEnd}
use Rattle.wc_model.specs.declared.entries.Asked.{Asked}
use Rattle.wc_model.specs.declared.entries.Listing.{Listing}
use Rattle.wc_model.specs.declared.inputs.Edit.{Edit}
use Rattle.wc_model.specs.declared.inputs.Edit.TheVariants.{Drop}
use Rattle.wc_model.specs.Workspace.Edits.{Setting, after, edits_of}
use Rattle.wc_model.specs.Workspace.History.{Chain, IsLegal, state_after, can_edit, is_live, bound_kind}
use Rattle.wc_model.specs.Workspace.States.{Opening, State, Ask, open_ask, is_free, home_of, stamp_at, count_of}
use Rattle.wc_core.specs.declared.answers.Edited.{Edited}
use Rattle.wc_core.specs.declared.answers.Edited.TheVariants.{Done, NoFact as NotLive}
use Rattle.wc_core.specs.Features.{arc_at, value_at}
use Rattle.wc_core.specs.Fits.{Feature, FitsTicket, FitsFlight, FitsLanded}
use Rattle.wc_core.specs.Inner.Works.{runs_with}
use Rattle.wc_core.specs.Turns.{Turn, next_turn, OutcomeIs, answers, starts, waits}
use Rattle.wc_core.specs.Views.{Known, KnownTicket, KnownFlight, KnownLanded, SameAsk}

-- The session is one of the workspace and has no open ask.
pub record LeavesFree (o : Opening) (history : List Entry) (session : ℕ) : Type 0 where
  pub st : State
  pub state : state_after o history ≡ Some st
  pub free : is_free o st session ≡ true

-- What other sessions hold goes on fitting after an entry of a session, and who was free stays free.
pub record KeepsOthers {V : Type 0} (feature : Feature V) (old new : Known) (session : ℕ) : Type 0 where
  pub free : (s : ℕ) → s ≢ session → LeavesFree old.opening old.history s → LeavesFree new.opening new.history s
  pub tickets : (t : KnownTicket V) → t.session ≢ session → FitsTicket feature old.opening old.history t → FitsTicket feature new.opening new.history t
  pub flights : (f : KnownFlight V) → f.ticket.session ≢ session → FitsFlight feature old.opening old.history f → FitsFlight feature new.opening new.history f
  pub landed : (l : KnownLanded V) → l.ticket.session ≢ session → FitsLanded feature old.opening old.history l → FitsLanded feature new.opening new.history l

-- What each call of a session keeps: the opening, a legal history, and what other sessions hold.
pub record Advances {V : Type 0} (chain : Chain) (feature : Feature V) (old new : Known) (session : ℕ) : Type 0 where
  pub opening : new.opening ≡ old.opening
  pub legal : IsLegal chain new.opening new.history
  pub others : KeepsOthers feature old new session

-- The number of accepted edits, and the inputs after all of them.
abbrev pub edit_count : Known → ℕ
edit_count k = length (edits_of k.history)

abbrev pub inputs_now : Known → Setting
inputs_now k = after k.opening.image (edit_count k) k.history

abbrev pub adds : Known → Known → Entry → Type 0
adds old new entry = new.history ≡ old.history ++ entry ∷ []

-- An accepted edit is counted, and adds its entry.
pub record IsAccepted (old new : Known) (session : ℕ) (edit : Edit) (count : ℕ) : Type 0 where
  pub counted : count ≡ edit_count old + 1
  pub allowed : can_edit edit (inputs_now old) ≡ true
  pub entry : adds old new (EditEntry session count edit)

-- A refused edit drops a fact that isn't live.
pub record IsRefused (old new : Known) (session : ℕ) (edit : Edit) (at : ℕ) : Type 0 where
  pub number : ℕ
  pub drops : edit ≡ Drop number
  pub dead : is_live number (inputs_now old) ≡ false
  pub here : at ≡ edit_count old
  pub entry : adds old new (NoFact session number at)

pub record IsListed (old new : Known) (session : ℕ) (listing : Listing) : Type 0 where
  pub here : listing.at ≡ edit_count old
  pub facts : listing.facts ≡ (inputs_now old).facts
  pub hardware : listing.hardware ≡ (inputs_now old).hardware
  pub entry : adds old new (ListEntry session listing.at)

abbrev pub EditIs : Known → Known → ℕ → Edit → Edited → Type 0
EditIs old new session edit (Done count) = IsAccepted old new session edit count
EditIs old new session edit (NotLive at) = IsRefused old new session edit at

-- A pinned ask is open at the current count, with the current inputs, and has nothing yet.
pub record IsPinned {V : Type 0} (feature : Feature V) (old new : Known) (session : ℕ) (name : List ℕ) (t : KnownTicket V) : Type 0 where
  pub session_is : t.session ≡ session
  pub name_is : t.name ≡ name
  pub here : t.at ≡ edit_count old
  pub inputs_are : t.inputs ≡ inputs_now old
  pub nothing : (kind : ℕ) → value_at kind t.had ≡ None
  pub quiet : t.memory ≡ false
  pub entry : adds old new (Pin session name t.at)
  pub fits : FitsTicket feature new.opening new.history t

-- What comes next for the open ask of a session.
abbrev pub IsNext : Known → ℕ → Turn → Type 0
IsNext k session turn = (st : State) (ask : Ask) → state_after k.opening k.history ≡ Some st → open_ask k.opening st session ≡ Some ask → next_turn k.opening st ask ≡ turn

-- The answer is the ask's, on the inputs at its count.
pub record IsDone {V : Type 0} (chain : Chain) (old new : Known) (t : KnownTicket V) (asked : Asked) : Type 0 where
  pub turn : IsNext old t.session answers
  pub here : asked.at ≡ t.at
  pub outcome : OutcomeIs chain t.memory (after old.opening.image t.at old.history) t.name asked.outcome
  pub entry : adds old new (Answer t.session t.name t.at asked.outcome)
  pub free : LeavesFree new.opening new.history t.session

-- A run of the ask starts. The ask goes on to hold what it held.
pub record IsStarted {V : Type 0} (feature : Feature V) (old new : Known) (t : KnownTicket V) (f : KnownFlight V) : Type 0 where
  pub turn : IsNext old t.session (starts f.kind)
  pub same : SameAsk t f.ticket
  pub held : (kind : ℕ) (a : Arc V Global) → arc_at kind t.had ≡ Some a → arc_at kind f.ticket.had ≡ Some a
  pub entry : adds old new (Start t.session f.kind t.name f.stamp)
  pub fits : FitsFlight feature new.opening new.history f

pub record IsBusy {V : Type 0} (old new : Known) (t back : KnownTicket V) (session : ℕ) : Type 0 where
  pub turn : IsNext old t.session (waits session)
  pub back_is : back ≡ t
  pub same : new ≡ old

-- A value is kept exactly where no edit since the ask's count touched its closure.
abbrev pub end_of : {V : Type 0} → Option V → Bool → End
end_of None current = MemoryEnd
end_of (Some _) true = KeptEnd
end_of (Some _) false = DroppedEnd

abbrev pub is_current : Opening → State → ℕ → ℕ → Bool
is_current o st kind stamp = stamp == stamp_at o st kind (count_of st)

-- A run of the ask has ended. What it gave stands at its kind, and the rest as it stood.
pub record IsGiven {V : Type 0} (feature : Feature V) (old new : Known) (l : KnownLanded V) (t : KnownTicket V) : Type 0 where
  pub same : SameAsk l.ticket t
  pub gave : MatchOption l.gave (t.had ≡ l.ticket.had) (λ v. value_at l.kind t.had ≡ Some v)
  pub rest : (kind : ℕ) → kind ≢ l.kind → arc_at kind t.had ≡ arc_at kind l.ticket.had
  pub end : End
  pub ends : (st : State) → state_after old.opening old.history ≡ Some st → end ≡ end_of l.gave (is_current old.opening st l.kind l.stamp)
  pub memory : t.memory ≡ is_none l.gave
  pub entry : adds old new (Finish l.ticket.session l.kind l.ticket.name l.stamp end)
  pub fits : FitsTicket feature new.opening new.history t

-- No run is out.
pub record RunsNothing (o : Opening) (history : List Entry) : Type 0 where
  pub st : State
  pub state : state_after o history ≡ Some st
  pub none : st.out ≡ []

-- The works of each kind are those that the replay has at home. The one that came home last stands first.
abbrev pub AreRuns : Opening → List Entry → List (ℕ × ℕ) → Type 0
AreRuns o history works = (st : State) → state_after o history ≡ Some st → (kind : ℕ) → reverse (runs_with kind works) ≡ home_of kind st.home
