-- The session of a workspace of its own waits for nobody.
use Rattle.std.proofs.Common.{◌≡◌, ◌≢◌, ℕ, ◌==◌, ◌||◌, Bool, true, false, not, if◌then◌else◌, List, [], ◌∷◌, length, Option, None, Some, nat_le, refl, sym, ap, subst, ◌∙◌, arith, eqb-true}
use Rattle.std.proofs.lemmas.Bool.{and_parts, eq-eqb, leb-true}
use Rattle.wc_model.specs.declared.entries.Entry.{Entry}
use Rattle.wc_model.specs.Workspace.Closures.{has_kind, order_of}
use Rattle.wc_model.specs.Workspace.History.{bound_kind, state_after}
use Rattle.wc_model.specs.Workspace.States.{Opening, Run, State, Ask, ask_at, home_of, is_free, is_session, key_of, own_run, start, within_reach}
use Rattle.wc_model.proofs.RestLemmas.{nothing_out, quiet_after}
use Rattle.wc_core.specs.Answers.{IsNext, LeavesFree, RunsNothing}
use Rattle.wc_core.specs.Fits.{Feature, FitsTicket}
use Rattle.wc_core.specs.Turns.{answers, at_home, first_missing, runner_of_key, turn_for, unless_running, waits}
use Rattle.wc_core.specs.Views.{Known, KnownTicket, ask_with}
use Rattle.wc_core.proofs.TurnLemmas.{find_has}
use Rattle.wc_session.specs.Alone.{IsAlone}
use Rattle.wc_session.proofs.WorkLemmas.{all_home}

-- The one session rests, so no run is out.

not_open : (o : Opening) (st : State) (s : ℕ) → o.sessions ≡ 1 → s ≢ 1 → (known : Bool) → is_session o s ≡ known → (if known then ask_at s st.asks else None) ≡ None
not_open o st s one other false is = refl
not_open o st s one other true is =
    let within = and_parts (nat_le 1 s) (nat_le s o.sessions) is in
    absurd (other (omega (arith, one, leb-true 1 s within.0, leb-true s o.sessions within.1)))

none_out : (out : List Run) → ((s : ℕ) → own_run s out ≡ None) → out ≡ []
none_out [] none = refl
none_out (r ∷ out) none = absurd (let both = sym (ap (λ b. if b then Some r else own_run r.session out) (eq-eqb r.session r.session refl)) ∙ none r.session in cc)

all_rest : (o : Opening) (history : List Entry) (st : State) → state_after o history ≡ Some st → o.sessions ≡ 1 → own_run 1 st.out ≡ None → st.out ≡ []
all_rest o history st state one rests = none_out st.out (λ s. by s (s == 1) refl) where
  by : (s : ℕ) (same : Bool) → (s == 1) ≡ same → own_run s st.out ≡ None
  by s true is = ap (λ n. own_run n st.out) (eqb-true s 1 is) ∙ rests
  by s false is =
      let other : s ≢ 1 = λ (at : s ≡ 1). let both = sym is ∙ eq-eqb s 1 at in cc in
      quiet_after o history st state s (not_open o st s one other (is_session o s) refl)

-- A wait is the turn of a kind of which no work is at home.

abbrev Waits : Opening → State → ℕ → Type 0
Waits o st kind = (has_kind kind (order_of o.kinds) ≡ true) × (length (home_of kind st.home) ≡ 0)

home_waits : (kind session : ℕ) (home : List ℕ) (out : List Run) → at_home kind home out ≡ waits session → length home ≡ 0
home_waits kind session [] out is = refl
home_waits kind session (h ∷ hs) out is = cc

first_waits : (o : Opening) (st : State) (ask : Ask) (session : ℕ) (first : Option ℕ) → st.out ≡ [] → ((kind : ℕ) → first ≡ Some kind → has_kind kind (order_of o.kinds) ≡ true) → turn_for o st ask first ≡ waits session → (kind : ℕ) × Waits o st kind
first_waits o st ask session None none listed is = cc
first_waits o st ask session (Some kind) none listed is =
    let alone : unless_running kind (home_of kind st.home) [] (runner_of_key (key_of o st ask kind) []) ≡ waits session = sym (ap (λ out. unless_running kind (home_of kind st.home) out (runner_of_key (key_of o st ask kind) out)) none) ∙ is in
    (kind, (listed kind refl, home_waits kind session (home_of kind st.home) [] alone))

turn_waits : (o : Opening) (st : State) (ask : Ask) (session : ℕ) (done : Bool) → st.out ≡ [] → (if done then answers else turn_for o st ask (first_missing o st ask (order_of o.kinds))) ≡ waits session → (kind : ℕ) × Waits o st kind
turn_waits o st ask session true none is = cc
turn_waits o st ask session false none is =
    first_waits o st ask session (first_missing o st ask (order_of o.kinds)) none (λ kind first. find_has (λ k. not (within_reach o st ask k)) (order_of o.kinds) kind first) is

empty : (xs : List ℕ) → length xs ≡ 0 → xs ≡ []
empty [] is = refl
empty (x ∷ xs) is = absurd (omega (arith, is))

-- So with one session `Busy` can't come.
pub waits_for_nobody : {V : Type 0} (feature : Feature V) (k : Known) (t : KnownTicket V) (session : ℕ) → IsAlone k.opening → t.session ≡ 1 → FitsTicket feature k.opening k.history t → IsNext k t.session (waits session) → ⊥
waits_for_nobody feature k t session alone is fits turn =
    let o : Opening = k.opening in
    let st : State = fits.st in
    let none = all_rest o k.history st fits.state alone.one (ap (λ s. own_run s st.out) (sym is) ∙ fits.rests) in
    let ask : Ask = ask_with t fits.is_open.kinds in
    let found = turn_waits o st ask session (ask.memory || within_reach o st ask bound_kind) none (turn st ask fits.state fits.is_open.ask) in
    alone.staffed found.0 found.1.0 (empty (home_of found.0 (start o).home) (sym (all_home o k.history st fits.state none found.0) ∙ found.1.1))

-- Where the one session is free, no run is out.
pub alone_rests : (o : Opening) (h : List Entry) → IsAlone o → LeavesFree o h 1 → RunsNothing o h
alone_rests o h alone free =
    let F : ℕ → Type 0 = λ s. is_free o free.st s ≡ true in
    record {
      st = free.st;
      state = free.state;
      none = nothing_out o h free.st free.state (λ session least most. let same : 1 ≡ session = omega (arith, least, most, alone.one) in subst F same free.free);
    }
