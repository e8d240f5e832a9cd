-- What a start owes, from a ticket that fits.
use Rattle.std.proofs.Common.{◌≡◌, ℕ, ◌+◌, ◌*◌, ◌≤◌, ◌<◌, ◌||◌, ◌==◌, Bool, true, false, List, [], ◌∷◌, ◌++◌, All, length, reverse, None, Some, is_some, refl, sym, ap, subst, ◌∙◌, arith}
use Rattle.std.specs.List.{find}
use Rattle.std.proofs.lemmas.Bool.{eq-eqb}
use Rattle.wc_base.proofs.TestLemmas.{if_false}
use Rattle.wc_model.specs.declared.entries.Entry.{Entry}
use Rattle.wc_model.specs.declared.entries.Entry.TheVariants.{Start}
use Rattle.wc_model.specs.Workspace.Closures.{has_kind, order_of}
use Rattle.wc_model.specs.Workspace.History.{Chain}
use Rattle.wc_model.specs.Workspace.States.{Opening, State, Ask, home_of, key_of, own_run, stamp_at}
use Rattle.wc_core.specs.declared.answers.Step.TheVariants.{Starts as StartsStep}
use Rattle.wc_core.specs.Answers.{Advances, IsStarted}
use Rattle.wc_core.specs.Features.{HasRequired}
use Rattle.wc_core.specs.Fits.{Feature, FitsTicket}
use Rattle.wc_core.specs.Inner.Moves.{Had, Lines, pulled}
use Rattle.wc_core.specs.Inner.Seats.{IsNameTaken, KnownSeat, seat_at, with_seat}
use Rattle.wc_core.specs.Inner.Steps.{IsStep}
use Rattle.wc_core.specs.Inner.Stocks.{IsCore, Stock, lacking, names_needed}
use Rattle.wc_core.specs.Inner.Works.{IsSent, IsTaken, is_of, run_with, runs_with}
use Rattle.wc_core.specs.Turns.{next_turn, runner_of_key, runner_of_kind, starts, turn_for, unless_running, waits}
use Rattle.wc_core.specs.Views.{Known, KnownFlight, KnownTicket, ask_with}
use Rattle.wc_core.proofs.AnswerLemmas.{or_later}
use Rattle.wc_core.proofs.AskLemmas.{IsAsked, resting}
use Rattle.wc_core.proofs.CoreLemmas.{known}
use Rattle.wc_core.proofs.DepartLemmas.{Departs, departs}
use Rattle.wc_core.proofs.HoldLemmas.{pulled_keeps}
use Rattle.wc_core.proofs.HomeLemmas.{waits_is}
use Rattle.wc_core.proofs.NameLemmas.{IsTakenFrom, front_all, last_all, name_fewer, name_is, seat_left, taken_fewer, with_twice}
use Rattle.wc_core.proofs.ReadyLemmas.{IsReady, ready}
use Rattle.wc_core.proofs.SeatLemmas.{lacks_one}
use Rattle.wc_core.proofs.StartLemmas.{IsShort}
use Rattle.wc_core.proofs.TurnLemmas.{CanStart, Starts, can_start, next_case, turn_starts}
use Rattle.wc_core.proofs.WorkLemmas.{taken_all}

not_waits : (s kind : ℕ) → waits s ≡ starts kind → ⊥
not_waits s kind is = cc

abbrev pub sent_stock : {V : Type 0} → Stock V → KnownTicket V → List (ℕ × ℕ) → List (ℕ × ℕ) → ℕ → List ℕ → ℕ → ℕ → List KnownSeat → ℕ → ℕ → ℕ → Stock V
sent_stock d t keys home kind going stamp runs seats owed room spare =
    record d { lines = (pulled t.name t.session keys t.had d.lines).1; home = home; out = d.out ++ run_with t.session kind going stamp runs ∷ []; seats = seats; owed = owed; spare = spare; room = room }

abbrev pub sent_flight : {V : Type 0} → Stock V → KnownTicket V → List (ℕ × ℕ) → ℕ → ℕ → ℕ → ℕ → KnownFlight V
sent_flight d t keys kind stamp runs sessions = record { ticket = record t { had = (pulled t.name t.session keys t.had d.lines).0 }; kind = kind; stamp = stamp; runs = runs; sessions = sessions }

pub record Sends {V : Type 0} (chain : Chain) (feature : Feature V) (o : Opening) (k : Known) (entries : List Entry) (d : Stock V) (t : KnownTicket V) (f : KnownFlight V) : Type 0 where
  pub core : IsCore chain feature o entries d
  pub advances : Advances chain feature k (known o entries) t.session
  pub required : HasRequired o.kinds (λ j v. feature j t.inputs t.name v) f.kind f.ticket.had
  pub started : IsStarted feature k (known o entries) t f

module _ {V : Type 0} (chain : Chain) (feature : Feature V) (o : Opening) (h : List Entry) (d : Stock V) (k : Known) (view : known o h ≡ k) (core : IsCore chain feature o h d) (t : KnownTicket V) (fits : FitsTicket feature k.opening k.history t) (kind stamp : ℕ) (step : IsStep chain k t (StartsStep kind stamp)) where
  abbrev asked : IsAsked feature o core.st d t
  asked = (resting chain feature o h d k view core t fits).0

  abbrev ask : Ask
  ask = ask_with t asked.is_open.kinds

  rests : own_run t.session core.st.out ≡ None
  rests = (resting chain feature o h d k view core t fits).1

  pub can : IsReady o h d t ask
  can = ready chain feature o h d core t asked rests

  own_step : IsStep chain (known o h) t (StartsStep kind stamp)
  own_step = let S : Known → Type 0 = λ v. IsStep chain v t (StartsStep kind stamp) in subst S (sym view) step

  turn_is : next_turn o core.st ask ≡ starts kind
  turn_is = own_step.0 core.st ask core.kept.state asked.is_open.ask

  turn : Starts o core.st ask kind
  turn = turn_starts o core.st ask kind turn_is

  own : stamp ≡ stamp_at o core.st kind t.at
  own = own_step.1 core.st core.kept.state

  may : CanStart o core.st t.session ask kind
  may = can_start o core.st t.session ask kind rests turn

  runs_here : unless_running kind (reverse (runs_with kind d.home)) core.st.out (runner_of_key (key_of o core.st ask kind) core.st.out) ≡ starts kind
  runs_here =
      ap (λ (l : List ℕ). unless_running kind l core.st.out (runner_of_key (key_of o core.st ask kind) core.st.out)) (sym (core.parts.works.home_is kind))
      ∙ ap (turn_for o core.st ask) (sym turn.first) ∙ (next_case o core.st ask kind _ turn_is).1

  there_case : (b : Bool) → is_some (find (is_of kind) d.home) ≡ b → b ≡ true
  there_case true is = refl
  there_case false is = absurd (not_waits (runner_of_kind kind core.st.out) kind (sym (waits_is kind d.home core.st.out (runner_of_key (key_of o core.st ask kind) core.st.out) turn.alone is) ∙ runs_here))

  pub there : is_some (find (is_of kind) d.home) ≡ true
  there = there_case (is_some (find (is_of kind) d.home)) refl

  lacks_some : 1 ≤ lacking o ask
  lacks_some = omega (arith, lacks_one ask.kinds (kind ∷ ask.kinds) (order_of o.kinds) kind (λ j is. or_later (kind == j) (has_kind j ask.kinds) is) may.listed may.lacks (ap (λ b. b || has_kind kind ask.kinds) (eq-eqb kind kind refl)))

  pub two : 2 ≤ length (seat_at t.session d.seats).names
  two = omega (arith, lacks_some, can.names, if_false t.memory 1 (2 * lacking o ask + 1) turn.quiet)

  pub some_left : (going : List ℕ) (first : List KnownSeat) → IsTakenFrom t.session d.seats first going → 0 < length (seat_at t.session first).names
  some_left going first taken = omega (arith, two, name_fewer t.session d.seats first going asked.place_seats taken)

  pub runs_few : (home : List (ℕ × ℕ)) (runs : ℕ) → IsTaken kind runs d.home home → runs ≤ length h
  runs_few home runs sent = (taken_all kind runs d.home home sent (λ w. w.1 ≤ length h) core.parts.works.few_home).1

  module _ (going name : List ℕ) (first seats : List KnownSeat) (taken : IsTakenFrom t.session d.seats first going) (again : IsTakenFrom t.session first seats name) where
    mine : IsNameTaken taken.0 again.0 name
    mine = subst (λ (s : KnownSeat). IsNameTaken s again.0 name) (seat_left t.session d.seats first going asked.place_seats taken) again.1

    short : IsShort (seat_at t.session d.seats) again.0
    short =
        record {
          keys = mine.keys ∙ taken.1.keys;
          names = λ n all. front_all (λ m. m ≡ n) again.0.names name (subst (λ (ns : List (List ℕ)). All (λ m. m ≡ n) ns) mine.names (front_all (λ m. m ≡ n) taken.0.names going (subst (λ (ns : List (List ℕ)). All (λ m. m ≡ n) ns) taken.1.names all)));
          fewer = omega (arith, taken_fewer taken.0 again.0 name mine, taken_fewer (seat_at t.session d.seats) taken.0 going taken.1);
        }

    going_is : going ≡ t.name
    going_is = name_is t.session d.seats first going asked.place_seats taken t.name asked.seated.names

    named : name ≡ t.name
    named =
        last_all (λ n. n ≡ t.name) again.0.names name (subst (λ (ns : List (List ℕ)). All (λ m. m ≡ t.name) ns) mine.names
        (front_all (λ m. m ≡ t.name) taken.0.names going (subst (λ (ns : List (List ℕ)). All (λ m. m ≡ t.name) ns) taken.1.names asked.seated.names)))

    seats_are : seats ≡ with_seat t.session again.0 d.seats
    seats_are = again.2 ∙ ap (with_seat t.session again.0) taken.2 ∙ with_twice t.session again.0 taken.0 d.seats

    pub sends : (home : List (ℕ × ℕ)) (runs : ℕ) → IsTaken kind runs d.home home → length t.had ≡ 65 → (entries : List Entry) (keys : List (ℕ × ℕ)) (owed room spare : ℕ)
        → entries ≡ h ++ Start t.session kind name stamp ∷ [] → keys ≡ (seat_at t.session d.seats).keys → owed + 1 ≡ d.owed → d.room ≤ room → owed ≤ spare
        → Sends chain feature o k entries (sent_stock d t keys home kind going stamp runs seats owed room spare) t (sent_flight d t keys kind stamp runs o.sessions)
    sends home runs sent wide entries keys owed room spare entries_are keys_are one within stored =
        let entry = entries_are ∙ ap (λ (n : List ℕ). h ++ Start t.session kind n stamp ∷ []) named in
        let all = departs chain feature o h d k view core t kind runs owed room spare asked rests turn home sent again.0 short wide entries stamp own entry one within stored in
        let own_stamp : ℕ = stamp_at o core.st kind t.at in
        let S : ℕ → Type 0 = λ s. Departs chain feature o k entries (sent_stock d t (seat_at t.session d.seats).keys home kind t.name s runs (with_seat t.session again.0 d.seats) owed room spare) t (sent_flight d t (seat_at t.session d.seats).keys kind stamp runs o.sessions) in
        let K : List (ℕ × ℕ) → Type 0 = λ ks. Departs chain feature o k entries (sent_stock d t ks home kind t.name own_stamp runs (with_seat t.session again.0 d.seats) owed room spare) t (sent_flight d t ks kind stamp runs o.sessions) in
        let L : List (ℕ × ℕ) → Type 0 = λ ks. Departs chain feature o k entries (sent_stock d t ks home kind t.name stamp runs (with_seat t.session again.0 d.seats) owed room spare) t (sent_flight d t ks kind stamp runs o.sessions) in
        let G : List ℕ → Type 0 = λ n. Departs chain feature o k entries (sent_stock d t keys home kind n stamp runs (with_seat t.session again.0 d.seats) owed room spare) t (sent_flight d t keys kind stamp runs o.sessions) in
        let T : List KnownSeat → Type 0 = λ ss. Departs chain feature o k entries (sent_stock d t keys home kind going stamp runs ss owed room spare) t (sent_flight d t keys kind stamp runs o.sessions) in
        let now = subst T (sym seats_are) (subst G (sym going_is) (subst L (sym keys_are) (subst S (sym own) (subst K (sym asked.seated.keys) all)))) in
        record {
          core = now.core;
          advances = now.advances;
          required = now.required;
          started = record {
            turn = step.0;
            same = record { session = refl; name = refl; at = refl; inputs = refl };
            held = λ j a is. pulled_keeps t.name t.session keys t.had d.lines j a is;
            entry = entry ∙ ap (λ (v : Known). v.history ++ Start t.session kind t.name stamp ∷ []) view;
            fits = now.fits;
          };
        }
