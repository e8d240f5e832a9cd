-- What the entries of other sessions leave of a session: its ask, its run, and what it holds.
use Rattle.std.proofs.Common.{◌≡◌, ◌≢◌, ◌⊎◌, ℕ, zero, suc, ◌+◌, ◌≤◌, ◌==◌, ◌&&◌, Bool, true, false, inl, inr, ⊎_elim, List, [], ◌∷◌, ◌++◌, drop, length, Option, None, Some, is_none, refl, sym, ap, subst, ◌∙◌, arith, append_assoc, length-append, replicate, if◌then◌else◌}
use Rattle.std.specs.Option.{IsSome}
use Rattle.std.proofs.lemmas.Bool.{eqb-false, eqb-true}
use Rattle.std.proofs.lemmas.List.{append-nil, append_cancel_left}
use Rattle.std.proofs.lemmas.List.Elements.{filter-append}
use Rattle.wc_model.specs.declared.entries.End.{End}
use Rattle.wc_model.specs.declared.entries.End.TheVariants.{Kept, Dropped, Memory}
use Rattle.wc_model.specs.declared.entries.Entry.{Entry}
use Rattle.wc_model.specs.declared.entries.Entry.TheVariants.{Edit as EditEntry, NoFact, Pin, Start, Finish, Answer, List as ListEntry}
use Rattle.wc_model.specs.declared.inputs.Edit.{Edit}
use Rattle.wc_model.specs.Workspace.Edits.{after_edits}
use Rattle.wc_model.specs.Workspace.Entries.{entries_of, session_of}
use Rattle.wc_model.specs.Workspace.History.{Chain, IsLegal, step, stepped, replay, state_after, opened, after_edit, after_pin, ask_after, new_ask, key_with, may_edit, may_refuse, may_pin, may_list, taken}
use Rattle.wc_model.specs.Workspace.States.{Opening, State, Run, Ask, start, ask_at, count_of, inputs_at, is_free, is_session, open_ask, own_run, with_ask}
use Rattle.wc_model.proofs.Replays.{replay-append, throughout}
use Rattle.wc_model.proofs.Sharing.{LeavesOthers, asked_other, inputs_stay, in_other, run_other}
use Rattle.wc_model.proofs.StepLemmas.{allowed, answered, finished, if_some, some_same, started}
use Rattle.wc_core.specs.Answers.{LeavesFree}
use Rattle.wc_core.specs.Fits.{Feature, FitsLanded, FitsTicket, IsOpen}
use Rattle.wc_core.specs.Views.{KnownLanded, KnownTicket, ask_with}
use Rattle.wc_pass.specs.Known.{IsPrefix}

-- One step.

same_state : (session : ℕ) (st new : State) → st ≡ new → LeavesOthers session st new
same_state session st new is =
    subst (LeavesOthers session st) is (record { asks = λ s other. refl; runs = λ s other. refl; more = []; edits = sym (append-nil st.edits) })

edited_state : (o : Opening) (session : ℕ) (st new : State) (edit : Edit) → after_edit o st edit ≡ new → LeavesOthers session st new
edited_state o session st new edit is =
    subst (LeavesOthers session st) is (record { asks = λ s other. refl; runs = λ s other. refl; more = edit ∷ []; edits = refl })

-- the ask of the session changes, and so do its runs
module _ (session : ℕ) (st new : State) (ask : Option Ask) (asks : new.asks ≡ with_ask session ask st.asks) (edits : new.edits ≡ st.edits) where
  asked_state : ((s : ℕ) → s ≢ session → own_run s new.out ≡ own_run s st.out) → LeavesOthers session st new
  asked_state runs =
      record {
        asks = λ s other. ap (ask_at s) asks ∙ asked_other s session ask st.asks other;
        runs = runs;
        more = [];
        edits = edits ∙ sym (append-nil st.edits);
      }

-- An entry of one session leaves the others alone.
pub leaves_others : (o : Opening) (st new : State) (e : Entry) → step o st e ≡ Some new → LeavesOthers (session_of e) st new
leaves_others o st new (EditEntry session count edit) goes = edited_state o session st new edit (allowed (may_edit o st session count edit) (after_edit o st edit) new goes).1
leaves_others o st new (NoFact session number at) goes = same_state session st new (allowed (may_refuse o st session number at) st new goes).1
leaves_others o st new (ListEntry session at) goes = same_state session st new (allowed (may_list o st session at) st new goes).1
leaves_others o st new (Pin session name at) goes =
    let is = (allowed (may_pin o st session at) (after_pin st session name) new goes).1 in
    asked_state session st new (Some (new_ask name (count_of st))) (ap (λ (x : State). x.asks) (sym is)) (ap (λ (x : State). x.edits) (sym is)) (λ s other. ap (λ (x : State). own_run s x.out) (sym is))
leaves_others o st new (Start session kind name stamp) goes =
    let is = started o st new session kind name stamp goes in
    asked_state session st new _ (ap (λ (x : State). x.asks) (sym is.new_is)) (ap (λ (x : State). x.edits) (sym is.new_is))
    (λ s other. ap (λ (x : State). own_run s x.out) (sym is.new_is) ∙ run_other s st.out _ (λ same. other (sym same)))
leaves_others o st new (Finish session kind name stamp end) goes =
    let is = finished o st new session kind name stamp end goes in
    asked_state session st new _ (ap (λ (x : State). x.asks) (sym is.new_is)) (ap (λ (x : State). x.edits) (sym is.new_is))
    (λ s other. ap (λ (x : State). own_run s x.out) (sym is.new_is) ∙ in_other s session st.out other)
leaves_others o st new (Answer session name at outcome) goes =
    let is = answered o st new session name at outcome goes in
    asked_state session st new None (ap (λ (x : State). x.asks) (sym is.new_is)) (ap (λ (x : State). x.edits) (sym is.new_is)) (λ s other. ap (λ (x : State). own_run s x.out) (sym is.new_is))

-- Each open ask was pinned at a count that was reached.

abbrev ArePinned : State → Type 0
ArePinned st = (s : ℕ) (ask : Ask) → ask_at s st.asks ≡ Some ask → ask.at ≤ length st.edits

either_ask : (s session : ℕ) (new : Option Ask) (asks : List (Option Ask)) (ask : Ask) → ask_at s (with_ask session new asks) ≡ Some ask → (new ≡ Some ask) ⊎ (ask_at s asks ≡ Some ask)
either_ask s session new [] ask is = inr is
either_ask zero zero new (a ∷ asks) ask is = inl is
either_ask (suc s) zero new (a ∷ asks) ask is = inr is
either_ask zero (suc session) new (a ∷ asks) ask is = inr is
either_ask (suc s) (suc session) new (a ∷ asks) ask is = either_ask s session new asks ask is

module _ (st new : State) (session : ℕ) (held : Option Ask) (pinned : ArePinned st) (asks : new.asks ≡ with_ask session held st.asks) (edits : new.edits ≡ st.edits) where
  pinned_with : ((ask : Ask) → held ≡ Some ask → ask.at ≤ length st.edits) → ArePinned new
  pinned_with own s ask is =
      subst (λ es. ask.at ≤ length es) (sym edits)
      (⊎_elim (own ask) (λ (at : ask_at s st.asks ≡ Some ask). pinned s ask at) (either_ask s session held st.asks ask (sym (ap (ask_at s) asks) ∙ is)))

pinned_at : (st : State) (ask held : Ask) → ask.at ≤ length st.edits → held.at ≡ ask.at → (a : Ask) → Some held ≡ Some a → a.at ≤ length st.edits
pinned_at st ask held is same a at =
    let here : held ≡ a = some_same held a at in
    let count : a.at ≡ ask.at = ap (λ (x : Ask). x.at) (sym here) ∙ same in
    subst (λ n. n ≤ length st.edits) (sym count) is

ask_after-at : (end : End) (kind : ℕ) (ask : Ask) → (ask_after end kind ask).at ≡ ask.at
ask_after-at Kept kind ask = refl
ask_after-at Dropped kind ask = refl
ask_after-at Memory kind ask = refl

asked_within : (o : Opening) (st : State) (session : ℕ) (ask : Ask) → ArePinned st → open_ask o st session ≡ Some ask → ask.at ≤ length st.edits
asked_within o st session ask pinned asked = pinned session ask (if_some (is_session o session) (ask_at session st.asks) ask asked).1

pinned_steps : (o : Opening) (st new : State) (e : Entry) → step o st e ≡ Some new → ArePinned st → ArePinned new
pinned_steps o st new (EditEntry session count edit) goes pinned =
    let is = (allowed (may_edit o st session count edit) (after_edit o st edit) new goes).1 in
    let long : length (st.edits ++ edit ∷ []) ≡ length st.edits + 1 = length-append st.edits (edit ∷ []) in
    subst ArePinned is (λ s ask at. let within = pinned s ask at in omega (arith, long, within))
pinned_steps o st new (NoFact session number at) goes pinned = subst ArePinned (allowed (may_refuse o st session number at) st new goes).1 pinned
pinned_steps o st new (ListEntry session at) goes pinned = subst ArePinned (allowed (may_list o st session at) st new goes).1 pinned
pinned_steps o st new (Pin session name at) goes pinned =
    let is = (allowed (may_pin o st session at) (after_pin st session name) new goes).1 in
    let here : Ask = new_ask name (count_of st) in
    pinned_with st new session (Some here) pinned (ap (λ (x : State). x.asks) (sym is)) (ap (λ (x : State). x.edits) (sym is)) (pinned_at st here here (omega arith) refl)
pinned_steps o st new (Start session kind name stamp) goes pinned =
    let is = started o st new session kind name stamp goes in
    pinned_with st new session _ pinned (ap (λ (x : State). x.asks) (sym is.new_is)) (ap (λ (x : State). x.edits) (sym is.new_is))
    (pinned_at st is.ask _ (asked_within o st session is.ask pinned is.asked) refl)
pinned_steps o st new (Finish session kind name stamp end) goes pinned =
    let is = finished o st new session kind name stamp end goes in
    pinned_with st new session _ pinned (ap (λ (x : State). x.asks) (sym is.new_is)) (ap (λ (x : State). x.edits) (sym is.new_is))
    (pinned_at st is.ask _ (asked_within o st session is.ask pinned is.asked) (ask_after-at end kind is.ask))
pinned_steps o st new (Answer session name at outcome) goes pinned =
    let is = answered o st new session name at outcome goes in
    pinned_with st new session None pinned (ap (λ (x : State). x.asks) (sym is.new_is)) (ap (λ (x : State). x.edits) (sym is.new_is)) (λ a none. absurd (let no_ask = none in cc))

none_asked : (n s : ℕ) (ask : Ask) → ask_at s (replicate n None) ≡ Some ask → ⊥
none_asked zero s ask is = cc
none_asked (suc n) zero ask is = cc
none_asked (suc n) (suc s) ask is = none_asked n s ask is

pub are_pinned : (o : Opening) (history : List Entry) (st : State) → state_after o history ≡ Some st → ArePinned st
are_pinned o history st is = throughout o ArePinned (pinned_steps o) (drop (opened o) history) (start o) st (λ s ask at. absurd (none_asked (o.sessions + 1) s ask at)) is

-- Many steps.

pub record StaysFor (s : ℕ) (st new : State) : Type 0 where
  pub ask : ask_at s new.asks ≡ ask_at s st.asks
  pub run : own_run s new.out ≡ own_run s st.out
  pub more : List Edit
  pub edits : new.edits ≡ st.edits ++ more

stays_then : (s session : ℕ) (st mid new : State) → s ≢ session → LeavesOthers session st mid → StaysFor s mid new → StaysFor s st new
stays_then s session st mid new other first later =
    record {
      ask = later.ask ∙ first.asks s other;
      run = later.run ∙ first.runs s other;
      more = first.more ++ later.more;
      edits = later.edits ∙ ap (λ es. es ++ later.more) first.edits ∙ append_assoc st.edits first.more later.more;
    }

none_case : (s : ℕ) (e : Entry) (es : List Entry) (same : Bool) → (session_of e == s) ≡ same → (if same then e ∷ entries_of s es else entries_of s es) ≡ [] → (s ≢ session_of e) × (entries_of s es ≡ [])
none_case s e es true is none = cc
none_case s e es false is none = (λ same. eqb-false (session_of e) s is (sym same), none)

none_first : (s : ℕ) (e : Entry) (es : List Entry) → entries_of s (e ∷ es) ≡ [] → (s ≢ session_of e) × (entries_of s es ≡ [])
none_first s e es none = none_case s e es (session_of e == s) refl none

stopped : (o : Opening) (es : List Entry) → replay o None es ≡ None
stopped o [] = refl
stopped o (e ∷ es) = stopped o es

pub went_on : (o : Opening) (next : Option State) (last : State) (es : List Entry) → replay o next es ≡ Some last → (new : State) × (next ≡ Some new) × (replay o (Some new) es ≡ Some last)
went_on o None last es goes = absurd (let none = sym (stopped o es) ∙ goes in cc)
went_on o (Some new) last es goes = (new, refl, goes)

stays_along : (o : Opening) (s : ℕ) (es : List Entry) (st last : State) → entries_of s es ≡ [] → replay o (Some st) es ≡ Some last → StaysFor s st last
stays_along o s [] st last none goes = subst (StaysFor s st) (some_same st last goes) (record { ask = refl; run = refl; more = []; edits = sym (append-nil st.edits) })
stays_along o s (e ∷ es) st last none goes =
    let apart = none_first s e es none in
    let on = went_on o (step o st e) last es goes in
    stays_then s (session_of e) st on.0 last apart.0 (leaves_others o st on.0 e on.1) (stays_along o s es on.0 last apart.1 on.2)

drop_both : (n : ℕ) (xs ys : List Entry) → (k : ℕ) × (drop n (xs ++ ys) ≡ drop n xs ++ drop k ys)
drop_both zero xs ys = (0, refl)
drop_both (suc n) [] ys = (suc n, refl)
drop_both (suc n) (x ∷ xs) ys = drop_both n xs ys

none_dropped : (k s : ℕ) (es : List Entry) → entries_of s es ≡ [] → entries_of s (drop k es) ≡ []
none_dropped zero s es none = none
none_dropped (suc k) s [] none = none
none_dropped (suc k) s (e ∷ es) none = none_dropped k s es (none_first s e es none).1

-- A list that has more entries, none of which is of the session.
module _ (o : Opening) (s : ℕ) (old new : List Entry) (before : IsPrefix old new) (same : entries_of s new ≡ entries_of s old) where
  none_new : entries_of s before.0 ≡ []
  none_new =
      append_cancel_left (entries_of s old) (entries_of s before.0) []
      (sym (filter-append _ old before.0) ∙ sym (ap (entries_of s) before.1) ∙ same ∙ sym (append-nil (entries_of s old)))

  pub stays_for : (st last : State) → state_after o old ≡ Some st → state_after o new ≡ Some last → StaysFor s st last
  stays_for st last state later =
      let parts = drop_both (opened o) old before.0 in
      let goes =
      sym (ap (λ x. replay o x (drop parts.0 before.0)) state)
      ∙ sym (replay-append o (Some (start o)) (drop (opened o) old) (drop parts.0 before.0))
      ∙ sym (ap (replay o (Some (start o))) (ap (drop (opened o)) before.1 ∙ parts.1))
      ∙ later in
      stays_along o s (drop parts.0 before.0) st last (none_dropped parts.0 s before.0 none_new) goes

-- What the session holds goes on fitting.
some_of : {A : Type 0} (x : Option A) → IsSome x → (a : A) × (x ≡ Some a)
some_of None is = cc
some_of (Some a) is = (a, refl)

pub last_state : (chain : Chain) (o : Opening) (history : List Entry) → IsLegal chain o history → (st : State) × (state_after o history ≡ Some st)
last_state chain o history legal = some_of (state_after o history) legal.goes_on

-- Who was free is free.
pub free_later : (chain : Chain) (o : Opening) (s : ℕ) (old new : List Entry) → IsPrefix old new → entries_of s new ≡ entries_of s old → IsLegal chain o new → LeavesFree o old s → LeavesFree o new s
free_later chain o s old new before same legal leaves =
    let last = last_state chain o new legal in
    let stays = stays_for o s old new before same leaves.st last.0 leaves.state last.1 in
    record { st = last.0; state = last.1; free = ap (λ a. is_session o s && is_none a) stays.ask ∙ leaves.free }

module _ {V : Type 0} (chain : Chain) (feature : Feature V) (o : Opening) (s : ℕ) (old new : List Entry) (before : IsPrefix old new) (same : entries_of s new ≡ entries_of s old) (legal : IsLegal chain o new) where
  open_later : (st last : State) → state_after o old ≡ Some st → StaysFor s st last → (t : KnownTicket V) → t.session ≡ s → IsOpen feature o st t → IsOpen feature o last t
  open_later st last state stays t own is =
      let asked = if_some (is_session o t.session) (ask_at t.session st.asks) (ask_with t is.kinds) is.ask in
      let within : t.at ≤ length st.edits = are_pinned o old st state t.session (ask_with t is.kinds) asked.1 in
      let there : ask_at t.session last.asks ≡ ask_at t.session st.asks = subst (λ n. ask_at n last.asks ≡ ask_at n st.asks) (sym own) stays.ask in
      record {
        kinds = is.kinds;
        same = is.same;
        ask = ap (λ a. if is_session o t.session then a else None) there ∙ is.ask;
        inputs = is.inputs ∙ sym (ap (after_edits o.image t.at) stays.edits ∙ inputs_stay o.image t.at st.edits stays.more within);
        features = is.features;
      }

  run_later : (st last : State) → StaysFor s st last → (n : ℕ) (run : Option Run) → n ≡ s → own_run n st.out ≡ run → own_run n last.out ≡ run
  run_later st last stays n run own is = subst (λ x. own_run x last.out ≡ own_run x st.out) (sym own) stays.run ∙ is

  pub ticket_later : (t : KnownTicket V) → t.session ≡ s → FitsTicket feature o old t → FitsTicket feature o new t
  ticket_later t own fits =
      let last = last_state chain o new legal in
      let stays = stays_for o s old new before same fits.st last.0 fits.state last.1 in
      record { st = last.0; state = last.1; is_open = open_later fits.st last.0 fits.state stays t own fits.is_open; rests = run_later fits.st last.0 stays t.session None own fits.rests }

  pub landed_later : (l : KnownLanded V) → l.ticket.session ≡ s → FitsLanded feature o old l → FitsLanded feature o new l
  landed_later l own fits =
      let last = last_state chain o new legal in
      let stays = stays_for o s old new before same fits.st last.0 fits.state last.1 in
      record {
        st = last.0;
        state = last.1;
        runs = fits.runs;
        ran = fits.ran;
        is_open = open_later fits.st last.0 fits.state stays l.ticket own fits.is_open;
        flies = run_later fits.st last.0 stays l.ticket.session _ own fits.flies;
        sessions = fits.sessions;
        gave = fits.gave;
      }
