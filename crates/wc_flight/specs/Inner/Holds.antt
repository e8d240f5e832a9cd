-- What is kept behind the lock, and what a pass and an ask's ticket know between two holds.
use Rattle.std.specs.Prelude.{ℕ, ◌≡◌, ◌≤◌, false, List, [], ◌∷◌, ◌++◌, All, Result, MatchResult}
use Rattle.std.specs.List.{list_any}
use Rattle.atomic_table.specs.Seated.{TableId}
use Rattle.wc_model.specs.declared.entries.End.{End}
use Rattle.wc_model.specs.declared.entries.Entry.{Entry}
use Rattle.wc_model.specs.declared.entries.Entry.TheVariants.{Pin, Start, Finish, Answer}
use Rattle.wc_model.specs.declared.entries.Asked.{Asked}
use Rattle.wc_model.specs.Workspace.Edits.{after}
use Rattle.wc_model.specs.Workspace.Entries.{session_of}
use Rattle.wc_model.specs.Workspace.History.{Chain, IsLegal}
use Rattle.wc_model.specs.Workspace.States.{Opening}
use Rattle.wc_core.specs.declared.tickets.Next.{Next}
use Rattle.wc_core.specs.declared.tickets.Next.TheVariants.{Done, Run, Busy}
use Rattle.wc_core.specs.Fits.{Feature, FitsTicket, FitsFlight, FitsLanded}
use Rattle.wc_core.specs.Turns.{OutcomeIs}
use Rattle.wc_core.specs.Views.{Known, KnownTicket, KnownFlight, KnownLanded, SameAsk}
use Rattle.wc_pass.specs.Known.{Known as KnownPen, KnownPass}
use Rattle.wc_flight.specs.Calls.{Gains, IsReady, IsRunOf, edits_seen, found_none}

-- The core has the opening, the pen is of the desk, and the published list is the core's history.
pub record IsLocked (chain : Chain) (own : TableId) (o : Opening) (core : Known) (pen : KnownPen) : Type 0 where
  pub opening : core.opening ≡ o
  pub desk_is : pen.desk ≡ own
  pub seen : pen.seen ≡ core.history
  pub legal : IsLegal chain o core.history

-- The last entry of a history, which the pen hasn't published yet, is by a session.
pub record IsNew (seen history : List Entry) (session : ℕ) : Type 0 where
  pub entry : Entry
  pub added : history ≡ seen ++ entry ∷ []
  pub by : session_of entry ≡ session

-- What a pass and what its session holds knew of the history goes on holding.
pub record KeepsOwn {V : Type 0} (feature : Feature V) (own : TableId) (o : Opening) (old new : KnownPass) : Type 0 where
  pub ready : IsReady own o old → IsReady own o new
  pub tickets : (t : KnownTicket V) → t.session ≡ old.session → FitsTicket feature o old.seen t → FitsTicket feature o new.seen t
  pub landed : (l : KnownLanded V) → l.ticket.session ≡ old.session → FitsLanded feature o old.seen l → FitsLanded feature o new.seen l

-- The ticket is of the pass's session, and the pass of the desk.
pub record IsHeld {V : Type 0} (own : TableId) (pass : KnownPass) (t : KnownTicket V) : Type 0 where
  pub desk_is : pass.desk ≡ own
  pub session_is : t.session ≡ pass.session

-- What one hold makes of an open ask: it answers, starts a run, waits, or takes a run back.

pub record Finishes {V : Type 0} (chain : Chain) (own : TableId) (o : Opening) (old new : KnownPass) (t : KnownTicket V) (asked : Asked) : Type 0 where
  pub here : asked.at ≡ t.at
  pub gains : Gains old new (Answer old.session t.name asked.at asked.outcome ∷ [])
  pub outcome : OutcomeIs chain t.memory (after o.image asked.at new.seen) t.name asked.outcome
  pub ready : IsReady own o new

pub record Departs {V : Type 0} (feature : Feature V) (o : Opening) (old new : KnownPass) (t : KnownTicket V) (f : KnownFlight V) : Type 0 where
  pub same : SameAsk t f.ticket
  pub calm : t.memory ≡ false
  pub gains : Gains old new (Start old.session f.kind t.name f.stamp ∷ [])
  pub fits : FitsFlight feature o new.seen f

pub record Waits {V : Type 0} (feature : Feature V) (o : Opening) (old new : KnownPass) (t back : KnownTicket V) : Type 0 where
  pub back_is : back ≡ t
  pub gains : Gains old new []
  pub fits : FitsTicket feature o new.seen back

pub record Lands {V : Type 0} (feature : Feature V) (o : Opening) (old new : KnownPass) (l : KnownLanded V) (t : KnownTicket V) : Type 0 where
  pub same : SameAsk l.ticket t
  pub end : End
  pub memory : t.memory ≡ found_none (Finish old.session l.kind l.ticket.name l.stamp end)
  pub gains : Gains old new (Finish old.session l.kind l.ticket.name l.stamp end ∷ [])
  pub fits : FitsTicket feature o new.seen t

abbrev pub NextAnswers : {W V : Type 0} → Chain → Feature V → TableId → Opening → KnownPass → KnownPass → KnownTicket V → Next W V → Type 0
NextAnswers chain feature own o old new t (Done asked) = Finishes chain own o old new t asked
NextAnswers chain feature own o old new t (Run flight) = Departs feature o old new t flight
NextAnswers chain feature own o old new t (Busy back session) = Waits feature o old new t back

-- An ask under way: its call has added its pin and some of its runs.
pub record IsUnderway {V : Type 0} (feature : Feature V) (own : TableId) (o : Opening) (old new : KnownPass) (name : List ℕ) (t : KnownTicket V) : Type 0 where
  pub held : IsHeld own new t
  pub name_is : t.name ≡ name
  pub runs : List Entry
  pub own_runs : All (IsRunOf old.session name) runs
  pub memory : t.memory ≡ list_any found_none runs
  pub gains : Gains old new (Pin old.session name t.at ∷ runs)
  pub fresh : edits_seen old ≤ t.at
  pub fits : FitsTicket feature o new.seen t

abbrev pub PinAnswers : {V E : Type 0} → Feature V → TableId → Opening → KnownPass → KnownPass → List ℕ → Result (KnownTicket V) E → Type 0
PinAnswers feature own o old new name result = MatchResult result (IsUnderway feature own o old new name) (λ _. Gains old new [] × IsReady own o new)
