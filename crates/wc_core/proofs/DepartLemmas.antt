-- What a start gives the flight.
use Rattle.std.proofs.Common.{◌≡◌, ◌≢◌, ℕ, zero, suc, ◌+◌, ◌<◌, ◌≤◌, ◌&&◌, ◌||◌, ◌==◌, ◌⊎◌, Bool, true, false, cond, inl, inr, ⊎_elim, List, [], ◌∷◌, ◌++◌, take, length, map, get_or, Option, None, Some, is_some, refl, sym, ap, ap₂, subst, ◌∙◌, arith, if◌then◌else◌}
use Rattle.std.specs.Global.{Global}
use Rattle.std.specs.List.{All, Contains, list_all, list_any}
use Rattle.std.specs.declared.sync.Arc.{Arc}
use Rattle.std.proofs.lemmas.Bool.{and_parts, eq-eqb, false≢true}
use Rattle.std.proofs.lemmas.List.Elements.{All-contains}
use Rattle.std.proofs.lemmas.List.{append-nil}
use Rattle.wc_base.proofs.TestLemmas.{if_true}
use Rattle.wc_model.specs.declared.entries.Entry.{Entry}
use Rattle.wc_model.specs.declared.entries.Entry.TheVariants.{Start}
use Rattle.wc_model.specs.Workspace.Closures.{has_kind, order_of, requires_of}
use Rattle.wc_model.specs.Workspace.History.{Chain, before, key_with}
use Rattle.wc_model.specs.Workspace.States.{Opening, State, in_store, is_session, is_stored, ask_at, key_of, own_run, stamp_at, within_reach}
use Rattle.wc_core.specs.Answers.{Advances}
use Rattle.wc_core.specs.Features.{HasFeature, HasRequired, arc_at, value_at, value_of}
use Rattle.wc_core.specs.Fits.{Feature, FitsFlight, HoldsFeatures, IsOpen}
use Rattle.wc_core.specs.Inner.Lines.{copy_for}
use Rattle.wc_core.specs.Inner.Moves.{Had, Lines}
use Rattle.wc_core.specs.Inner.Seats.{KnownSeat, seat_at}
use Rattle.wc_core.specs.Inner.Stocks.{IsCore, Stock}
use Rattle.wc_core.specs.Inner.Works.{IsTaken}
use Rattle.wc_core.specs.Views.{Known, KnownFlight, KnownTicket, ask_with}
use Rattle.wc_core.proofs.AskLemmas.{IsAsked}
use Rattle.wc_core.proofs.CoreLemmas.{core_pinned, known, moved}
use Rattle.wc_core.proofs.StartLemmas.{IsShort, after, asked_now, can, has_now, leaves, last, new, new_ask, parts_now, pulls, run, started_stock}
use Rattle.wc_core.proofs.StepLemmas.{step_start}
use Rattle.wc_core.proofs.TestLemmas.{or_cases}
use Rattle.wc_core.proofs.TurnLemmas.{Starts, kind_at}
use Rattle.wc_core.proofs.WorkLemmas.{own_new}

pub all_has : (q : ℕ → Bool) (xs : List ℕ) (j : ℕ) → list_all q xs ≡ true → Contains xs j → q j ≡ true
all_has q [] j all (k, within, is) = absurd (omega (arith, within))
all_has q (x ∷ xs) j all (zero, within, is) = ap q (sym is) ∙ (and_parts (q x) (list_all q xs) all).0
all_has q (x ∷ xs) j all (suc k, within, is) = all_has q xs j (and_parts (q x) (list_all q xs) all).1 (k, omega (arith, within), is)

or_later : (a b : Bool) → b ≡ true → (a || b) ≡ true
or_later true b is = refl
or_later false b is = is

pub among_has : (xs : List ℕ) (i j : ℕ) → Contains (take i xs) j → has_kind j xs ≡ true
among_has [] zero j (k, within, is) = absurd (omega (arith, within))
among_has [] (suc i) j (k, within, is) = absurd (omega (arith, within))
among_has (x ∷ xs) zero j (k, within, is) = absurd (omega (arith, within))
among_has (x ∷ xs) (suc i) j (zero, within, is) = ap (λ b. b || has_kind j xs) (eq-eqb x j is)
among_has (x ∷ xs) (suc i) j (suc k, within, is) = or_later (x == j) (has_kind j xs) (among_has xs i j (k, omega (arith, within), is))

pub some_at : {A : Type 0} (o : Option A) → is_some o ≡ true → (a : A) × (o ≡ Some a)
some_at None is = absurd (false≢true is)
some_at (Some a) is = (a, refl)

pub record Departs {V : Type 0} (chain : Chain) (feature : Feature V) (o : Opening) (k : Known) (entries : List Entry) (d : Stock V) (t : KnownTicket V) (f : KnownFlight V) : Type 0 where
  pub core : IsCore chain feature o entries d
  pub advances : Advances chain feature k (known o entries) t.session
  pub fits : FitsFlight feature o entries f
  pub required : HasRequired o.kinds (λ j v. feature j t.inputs t.name v) f.kind f.ticket.had

module _ {V : Type 0} (chain : Chain) (feature : Feature V) (o : Opening) (h : List Entry) (d : Stock V) (k : Known) (view : known o h ≡ k) (core : IsCore chain feature o h d) (t : KnownTicket V) (kind runs owed room spare : ℕ)
    (asked : IsAsked feature o core.st d t)
    (rests : own_run t.session core.st.out ≡ None)
    (turn : Starts o core.st (ask_with t asked.is_open.kinds) kind)
    (home : List (ℕ × ℕ)) (sent : IsTaken kind runs d.home home)
    (seat : KnownSeat) (short : IsShort (seat_at t.session d.seats) seat)
    (wide : length t.had ≡ 65) where
  abbrev had_now : Had V
  had_now = (after chain feature o h d core t kind runs owed room spare asked rests turn home sent seat short).0

  abbrev now : KnownTicket V
  now = record t { had = had_now }

  abbrev st_now : State
  st_now = new chain feature o h d core t kind runs owed room spare asked rests turn home sent seat short

  abbrev stock_now : Stock V
  stock_now = started_stock chain feature o h d core t kind runs owed room spare asked rests turn home sent seat short

  features_now : HoldsFeatures feature now
  features_now j a is =
      ⊎_elim (λ (old : arc_at j t.had ≡ Some a). asked.is_open.features j a old)
      (λ (copy : copy_for t.name j (stamp_at o core.st j t.at) t.session d.lines ≡ Some a).
      subst (λ i. feature j i t.name a.value) (sym asked.is_open.inputs) (core.parts.lines.right t.name j (stamp_at o core.st j t.at) t.session a copy t.at asked.seated.pinned refl))
      ((pulls chain feature o h d core t kind runs owed room spare asked rests turn home sent seat short wide).came j a is)

  open_now : IsOpen feature o st_now now
  open_now =
      record {
        kinds = (new_ask chain feature o h d core t kind runs owed room spare asked rests turn home sent seat short).kinds;
        same = has_now chain feature o h d core t kind runs owed room spare asked rests turn home sent seat short wide;
        ask = if_true (is_session o t.session) (ask_at t.session st_now.asks) None asked.known_is ∙ asked_now chain feature o h d core t kind runs owed room spare asked rests turn home sent seat short;
        inputs = asked.is_open.inputs;
        features = features_now;
      }

  holds_case : (j : ℕ) → (is_some (arc_at j had_now) ≡ true) → HasFeature (λ v. feature j t.inputs t.name v) (value_at j had_now)
  holds_case j has =
      let at = some_at (arc_at j had_now) has in
      subst (λ c. HasFeature (λ v. feature j t.inputs t.name v) (value_of c)) (sym at.1) (features_now j at.0 at.1)

  required_now : HasRequired o.kinds (λ j v. feature j t.inputs t.name v) kind had_now
  required_now j needed =
      let can_now = can chain feature o h d core t kind runs owed room spare asked rests turn home sent seat short in
      let order : List ℕ = order_of o.kinds in
      let place = kind_at order kind can_now.listed in
      let among : Contains (take place.0 order) j = All-contains (λ (x : ℕ). Contains (take place.0 order) x) (requires_of o.kinds kind) j (core.runs.order.after place.0 kind place.1) needed in
      let reach : within_reach o core.st (ask_with t asked.is_open.kinds) j ≡ true = all_has (within_reach o core.st (ask_with t asked.is_open.kinds)) (before kind order) j can_now.before_it (subst (λ l. Contains l j) place.2 among) in
      let listed : has_kind j order ≡ true = among_has order place.0 j among in
      holds_case j
      ((pulls chain feature o h d core t kind runs owed room spare asked rests turn home sent seat short wide).has j
      ∙ by (is_some (arc_at j t.had)) (is_stored o core.st (ask_with t asked.is_open.kinds) j) listed
      (ap (λ b. b || is_stored o core.st (ask_with t asked.is_open.kinds) j) (sym (asked.is_open.same j)) ∙ reach)
      (ap (in_store (key_with j t.name (stamp_at o core.st j t.at))) (sym core.parts.lines.rows))) where
        by : (a s : Bool) {stored : Bool} → has_kind j (order_of o.kinds) ≡ true → (a || s) ≡ true → stored ≡ s → (a || (has_kind j (order_of o.kinds) && stored)) ≡ true
        by true s listed reach same = refl
        by false s listed reach same = ap₂ (λ x y. x && y) listed (same ∙ reach)

  pub departs : (entries : List Entry) (stamp : ℕ) → stamp ≡ stamp_at o core.st kind t.at → entries ≡ h ++ Start t.session kind t.name stamp ∷ [] → owed + 1 ≡ d.owed → d.room ≤ room → owed ≤ spare
      → Departs chain feature o k entries stock_now t (record { ticket = now; kind = kind; stamp = stamp; runs = runs; sessions = o.sessions })
  departs entries stamp own entries_are one within stored =
      let key_stamp : ℕ = stamp_at o core.st kind t.at in
      let m = moved chain feature o h d k view core entries (Start t.session kind t.name key_stamp) st_now stock_now (entries_are ∙ ap (λ s. h ++ Start t.session kind t.name s ∷ []) own)
      (step_start o core.st (ask_with t asked.is_open.kinds) t.session runs (key_of o core.st (ask_with t asked.is_open.kinds) kind) asked.is_open.ask (can chain feature o h d core t kind runs owed room spare asked rests turn home sent seat short).may
      (last chain feature o h d core t kind runs owed room spare asked rests turn home sent seat short))
      tt (sym (append-nil core.st.edits)) (leaves chain feature o h d core t kind runs owed room spare asked rests turn home sent seat short)
      (parts_now chain feature o h d core t kind runs owed room spare asked rests turn home sent seat short wide (core_pinned chain feature o h d k view core) one within stored) in
      let F : ℕ → Type 0 = λ s. Departs chain feature o k entries stock_now t (record { ticket = now; kind = kind; stamp = s; runs = runs; sessions = o.sessions }) in
      subst F (sym own) (record {
        core = m.core;
        advances = m.advances;
        fits = record { st = st_now; state = m.state; is_open = open_now; flies = own_new core.st.out (run chain feature o h d core t kind runs owed room spare asked rests turn home sent seat short) rests; sessions = refl };
        required = required_now;
      })
