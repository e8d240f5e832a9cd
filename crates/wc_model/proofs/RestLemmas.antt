-- In a legal history no run of a session is out that has no open ask. So none is out where no ask is open.
use Rattle.std.proofs.Common.{◌≡◌, ◌≢◌, ℕ, zero, suc, ◌<◌, ◌≤◌, Bool, true, false, ◌&&◌, ◌==◌, List, [], ◌∷◌, length, Option, None, Some, is_none, drop, nat_le, refl, sym, ap, subst, ◌∙◌, arith, eq-eqb, eqb-true, if◌then◌else◌}
use Rattle.std.proofs.lemmas.Bool.{eqb-false, leb-true}
use Rattle.wc_model.specs.declared.entries.Entry.{Entry}
use Rattle.wc_model.specs.declared.entries.Entry.TheVariants.{Edit as EditEntry, NoFact, Pin, Start, Finish, Answer, List as ListEntry}
use Rattle.wc_model.specs.Workspace.History.{step, state_after, opened, after_edit, after_pin, may_edit, may_refuse, may_pin, may_list, key_with, right_outcome}
use Rattle.wc_model.specs.Workspace.States.{Opening, State, Run, Ask, start, ask_at, with_ask, own_run, open_ask, is_free, is_session, same_name}
use Rattle.wc_model.proofs.Replays.{throughout}
use Rattle.wc_model.proofs.Sharing.{asked_same, asked_other, run_other, in_other}
use Rattle.wc_model.proofs.StepLemmas.{if_some, allowed, started, finished, answered, IsStart, IsFinish, IsAnswer}

abbrev IsQuiet : Opening → State → Type 0
IsQuiet o st = (s : ℕ) → open_ask o st s ≡ None → own_run s st.out ≡ None

is_there : (session : ℕ) (asks : List (Option Ask)) (ask : Ask) → ask_at session asks ≡ Some ask → session < length asks
is_there session [] ask is = cc
is_there zero (a ∷ asks) ask is = omega arith
is_there (suc session) (a ∷ asks) ask is = let later = is_there session asks ask is in omega (arith, later)

and_both : (a b : Bool) → (a && b) ≡ true → (a ≡ true) × (b ≡ true)
and_both true b is = (refl, is)
and_both false b is = cc

none_is : {A : Type 0} (x : Option A) → is_none x ≡ true → x ≡ None
none_is None is = refl
none_is (Some a) is = cc

closed_if : (b : Bool) (x : Option Ask) → x ≡ None → (if b then x else None) ≡ None
closed_if true x is = is
closed_if false x is = refl

-- the ask of one session changes
module _ (o : Opening) (st : State) (session : ℕ) (quiet : IsQuiet o st) where
  abbrev asks_with : Option Ask → List (Option Ask)
  asks_with new = with_ask session new st.asks

  -- an open ask goes on, and the runs of the others stay
  goes_on : (ask new : Ask) (out : List Run) → open_ask o st session ≡ Some ask → ((s : ℕ) → s ≢ session → own_run s out ≡ own_run s st.out)
      → (s : ℕ) → open_ask o (record st { asks = asks_with (Some new); out = out }) s ≡ None → own_run s out ≡ None
  goes_on ask new out asked others s closed = by_case (s == session) refl
    where
      here : (is_session o session ≡ true) × (ask_at session st.asks ≡ Some ask)
      here = if_some (is_session o session) (ask_at session st.asks) ask asked

      by_case : (same : Bool) → (s == session) ≡ same → own_run s out ≡ None
      by_case true is =
          let s_is : s ≡ session = eqb-true s session is in
          let there : ask_at session (asks_with (Some new)) ≡ Some new = asked_same session (Some new) st.asks (is_there session st.asks ask here.1) in
          let O : ℕ → Type 0 = λ n. (if is_session o n then ask_at n (asks_with (Some new)) else None) ≡ None in
          let none = subst O s_is closed in
          absurd (let both = sym none ∙ ap (λ b. if b then ask_at session (asks_with (Some new)) else None) here.0 ∙ there in cc)
      by_case false is =
          let apart : s ≢ session = eqb-false s session is in
          others s apart ∙ quiet s (ap (λ a. if is_session o s then a else None) (sym (asked_other s session (Some new) st.asks apart)) ∙ closed)

  -- a session that has no run out opens or closes its ask
  rests : (new : Option Ask) → own_run session st.out ≡ None → (s : ℕ) → open_ask o (record st { asks = asks_with new }) s ≡ None → own_run s st.out ≡ None
  rests new none s closed = by_case (s == session) refl
    where
      by_case : (same : Bool) → (s == session) ≡ same → own_run s st.out ≡ None
      by_case true is = ap (λ n. own_run n st.out) (eqb-true s session is) ∙ none
      by_case false is =
          let apart : s ≢ session = eqb-false s session is in
          quiet s (ap (λ a. if is_session o s then a else None) (sym (asked_other s session new st.asks apart)) ∙ closed)

module _ (o : Opening) (st new : State) (quiet : IsQuiet o st) where
  became : (next : State) → next ≡ new → IsQuiet o next → IsQuiet o new
  became next is q = subst (IsQuiet o) is q

  starts_quiet : (session : ℕ) (key : _) → IsStart o st new session key → IsQuiet o new
  starts_quiet session key is =
      became _ is.new_is (goes_on o st session quiet is.ask _ _ is.asked (λ s other. run_other s st.out (record { session = session; key = key; runs = is.runs }) (λ same. other (sym same))))

  finishes_quiet : (session : ℕ) (key : _) (end : _) → IsFinish o st new session key end → IsQuiet o new
  finishes_quiet session key end is = became _ is.new_is (goes_on o st session quiet is.ask _ _ is.asked (λ s other. in_other s session st.out other))

  answers_quiet : (session : ℕ) (name : List ℕ) (at : ℕ) (outcome : _) → IsAnswer o st new session name at outcome → IsQuiet o new
  answers_quiet session name at outcome is =
      let three = and_both _ (right_outcome o st is.ask outcome) is.may in
      let two = and_both (same_name is.ask.name name && is.ask.at == at) (is_none (own_run session st.out)) three.0 in
      became _ is.new_is (rests o st session quiet None (none_is (own_run session st.out) two.1))

  pins_quiet : (session : ℕ) (name : List ℕ) (at : ℕ) → (may_pin o st session at ≡ true) × (after_pin st session name ≡ new) → IsQuiet o new
  pins_quiet session name at is =
      let free = and_both (is_free o st session) _ is.0 in
      let none = none_is (ask_at session st.asks) (and_both (is_session o session) (is_none (ask_at session st.asks)) free.0).1 in
      became _ is.1 (rests o st session quiet _ (quiet session (closed_if (is_session o session) (ask_at session st.asks) none)))

quiet_steps : (o : Opening) (st new : State) (e : Entry) → step o st e ≡ Some new → IsQuiet o st → IsQuiet o new
quiet_steps o st new (EditEntry session count edit) goes quiet = became o st new quiet _ (allowed (may_edit o st session count edit) (after_edit o st edit) new goes).1 quiet
quiet_steps o st new (NoFact session number at) goes quiet = became o st new quiet _ (allowed (may_refuse o st session number at) st new goes).1 quiet
quiet_steps o st new (Pin session name at) goes quiet = pins_quiet o st new quiet session name at (allowed (may_pin o st session at) (after_pin st session name) new goes)
quiet_steps o st new (Start session kind name stamp) goes quiet = starts_quiet o st new quiet session (key_with kind name stamp) (started o st new session kind name stamp goes)
quiet_steps o st new (Finish session kind name stamp end) goes quiet = finishes_quiet o st new quiet session (key_with kind name stamp) end (finished o st new session kind name stamp end goes)
quiet_steps o st new (Answer session name at outcome) goes quiet = answers_quiet o st new quiet session name at outcome (answered o st new session name at outcome goes)
quiet_steps o st new (ListEntry session at) goes quiet = became o st new quiet _ (allowed (may_list o st session at) st new goes).1 quiet

-- No run of a session is out that has no open ask.
pub quiet_after : (o : Opening) (history : List Entry) (st : State) → state_after o history ≡ Some st → (s : ℕ) → open_ask o st s ≡ None → own_run s st.out ≡ None
quiet_after o history st is = throughout o (IsQuiet o) (quiet_steps o) (drop (opened o) history) (start o) st (λ s closed. refl) is

none_out : (out : List Run) → ((s : ℕ) → own_run s out ≡ None) → out ≡ []
none_out [] none = refl
none_out (r ∷ out) none = absurd (let both = sym (ap (λ b. if b then Some r else own_run r.session out) (eq-eqb r.session r.session refl)) ∙ none r.session in cc)

closed_case : (o : Opening) (st : State) (s : ℕ) → ((session : ℕ) → 1 ≤ session → session ≤ o.sessions → is_free o st session ≡ true)
    → (known : Bool) → is_session o s ≡ known → open_ask o st s ≡ None
closed_case o st s free false is = ap (λ b. if b then ask_at s st.asks else None) is
closed_case o st s free true is =
    let within = and_both (nat_le 1 s) (nat_le s o.sessions) is in
    let own = and_both (is_session o s) (is_none (ask_at s st.asks)) (free s (leb-true 1 s within.0) (leb-true s o.sessions within.1)) in
    closed_if (is_session o s) (ask_at s st.asks) (none_is (ask_at s st.asks) own.1)

-- Where no session has an open ask, no run is out.
pub nothing_out : (o : Opening) (history : List Entry) (st : State) → state_after o history ≡ Some st
    → ((session : ℕ) → 1 ≤ session → session ≤ o.sessions → is_free o st session ≡ true) → st.out ≡ []
nothing_out o history st is free = none_out st.out (λ s. quiet_after o history st is s (closed_case o st s free (is_session o s) refl))
