-- An answer: the ask closes, and its copies go back.
use Rattle.std.proofs.Common.{◌≡◌, ◌≢◌, ℕ, zero, suc, ◌+◌, ◌*◌, ◌<◌, ◌≤◌, ◌&&◌, ◌||◌, ◌==◌, ◌⊎◌, Bool, true, false, not, cond, inl, inr, ⊎_elim, List, [], ◌∷◌, ◌++◌, length, map, Option, None, Some, IsSome, is_none, is_some, refl, sym, ap, ap₂, subst, ◌∙◌, arith, if◌then◌else◌}
use Rattle.std.specs.Global.{Global}
use Rattle.std.specs.List.{All, find, list_any}
use Rattle.std.specs.declared.sync.Arc.{Arc}
use Rattle.std.proofs.lemmas.Bool.{eq-eqb, eqb-true, eqb-false, false≢true}
use Rattle.std.proofs.lemmas.List.{append-nil}
use Rattle.std.proofs.lemmas.Option.{none-some, same_Some}
use Rattle.wc_base.proofs.TestLemmas.{if_true}
use Rattle.wc_model.specs.declared.entries.Entry.{Entry}
use Rattle.wc_model.specs.declared.entries.Entry.TheVariants.{Answer}
use Rattle.wc_model.specs.declared.values.Outcome.{Outcome}
use Rattle.wc_model.specs.declared.values.Outcome.TheVariants.{Bound, Fault as Refused, Memory}
use Rattle.wc_model.specs.Workspace.Closures.{has_kind, order_of}
use Rattle.wc_model.specs.Workspace.Edits.{Setting, after, after_edits, edits_of}
use Rattle.wc_model.specs.Workspace.History.{Chain, IsOutcome, after_answer, bound_kind, is_memory, key_with, right_outcome}
use Rattle.wc_model.specs.Workspace.States.{Opening, State, Run, Ask, ask_at, count_of, in_store, home_of, is_free, is_session, key_of, own_run, stamp_at, within_reach}
use Rattle.wc_model.proofs.Sharing.{LeavesOthers, asked_other, asked_same, length-with_ask}
use Rattle.wc_model.proofs.StepLemmas.{some_same}
use Rattle.wc_core.specs.Answers.{Advances, LeavesFree}
use Rattle.wc_core.specs.Features.{arc_at}
use Rattle.wc_core.specs.Fits.{Feature}
use Rattle.wc_core.specs.Inner.Lines.{AreApart, copy_for, row_of}
use Rattle.wc_core.specs.Inner.Moves.{Had, Lines, put}
use Rattle.wc_core.specs.Inner.Seats.{KnownSeat, all_names, no_seat, seat_at, with_seat}
use Rattle.wc_core.specs.Inner.Stocks.{AreCopiedBut, AreLines, AreParts, HasKey, IsCore, IsRightFor, SeatIs, Stock, keys_at, lacking, names_needed}
use Rattle.wc_core.specs.Turns.{OutcomeIs, answers, first_missing, next_turn, runner_of_key, turn_for, unless_running}
use Rattle.wc_core.specs.Views.{Known, KnownTicket, ask_with}
use Rattle.wc_core.proofs.AskLemmas.{IsAsked, names_of}
use Rattle.wc_core.proofs.CoreLemmas.{ArePinned, Moves, core_pinned, has_later, known, moved, seat_later, works_later}
use Rattle.wc_core.proofs.FeatureLemmas.{IsStable, right_from}
use Rattle.wc_core.proofs.PullLemmas.{OwnHas}
use Rattle.wc_core.proofs.PutLemmas.{IsPut, PutsYet, WasOrPut, put_is}
use Rattle.wc_core.proofs.SeatLemmas.{length-seats, names_with, seat_other, seat_same}
use Rattle.wc_core.proofs.StepLemmas.{step_answer}
use Rattle.wc_core.proofs.TestLemmas.{and_both, or_cases}

-- where an ask's turn is to answer, the bound is within reach or a run of it found no memory
none_case : (p : ℕ → Bool) (x kind : ℕ) (xs : List ℕ) (here : Bool) → p x ≡ here → cond here (Some x) (find p xs) ≡ None → ((x == kind) || has_kind kind xs) ≡ true → (find p xs ≡ None → has_kind kind xs ≡ true → p kind ≡ false) → p kind ≡ false
none_case p x kind xs true is none among later = absurd (none-some x (sym none))
none_case p x kind xs false is none among later = ⊎_elim (λ (same : (x == kind) ≡ true). ap p (sym (eqb-true x kind same)) ∙ is) (λ (more : has_kind kind xs ≡ true). later none more) (or_cases (x == kind) (has_kind kind xs) among)

pub find_none : (p : ℕ → Bool) (xs : List ℕ) (kind : ℕ) → find p xs ≡ None → has_kind kind xs ≡ true → p kind ≡ false
find_none p [] kind none among = absurd (false≢true among)
find_none p (x ∷ xs) kind none among = none_case p x kind xs (p x) refl none among (λ rest more. find_none p xs kind rest more)

pub or_later : (a b : Bool) → b ≡ true → (a || b) ≡ true
or_later true b is = refl
or_later false b is = is

true_of : (b : Bool) → not b ≡ false → b ≡ true
true_of true is = refl
true_of false is = absurd (false≢true (sym is))

unless_case : (k : ℕ) (home : List ℕ) (out : List Run) (runner : Option ℕ) → unless_running k home out runner ≡ answers → ⊥
unless_case k home out (Some s) is = cc
unless_case k [] out None is = cc
unless_case k (n ∷ ns) out None is = cc

turn_none : (o : Opening) (st : State) (ask : Ask) (first : Option ℕ) → turn_for o st ask first ≡ answers → first ≡ None
turn_none o st ask None is = refl
turn_none o st ask (Some k) is = absurd (unless_case k (home_of k st.home) st.out (runner_of_key (key_of o st ask k) st.out) is)

reach_case : (o : Opening) (st : State) (ask : Ask) (done : Bool) → (ask.memory || within_reach o st ask bound_kind) ≡ done → has_kind bound_kind (order_of o.kinds) ≡ true → (if done then answers else turn_for o st ask (first_missing o st ask (order_of o.kinds))) ≡ answers → done ≡ true
reach_case o st ask true is bound turn = refl
reach_case o st ask false is bound turn =
    let none = turn_none o st ask (first_missing o st ask (order_of o.kinds)) turn in
    let reach = true_of (within_reach o st ask bound_kind) (find_none (λ k. not (within_reach o st ask k)) (order_of o.kinds) bound_kind none bound) in
    sym is ∙ or_later ask.memory (within_reach o st ask bound_kind) reach

pub answers_reach : (o : Opening) (st : State) (ask : Ask) → has_kind bound_kind (order_of o.kinds) ≡ true → next_turn o st ask ≡ answers → (ask.memory || within_reach o st ask bound_kind) ≡ true
answers_reach o st ask bound turn = reach_case o st ask (ask.memory || within_reach o st ask bound_kind) refl bound turn

-- the outcome is right, and the chain's
right_case : (chain : Chain) (inputs : Setting) (name : List ℕ) (memory reach : Bool) (outcome : Outcome) → (memory || reach) ≡ true → OutcomeIs chain memory inputs name outcome → (if memory then is_memory outcome else (not (is_memory outcome) && reach)) ≡ true
right_case chain inputs name true reach outcome is told = ap is_memory told
right_case chain inputs name false reach (Bound b) is told = is
right_case chain inputs name false reach (Refused f) is told = is
right_case chain inputs name false reach Memory is told = absurd told

outcome_case : (chain : Chain) (inputs : Setting) (name : List ℕ) (memory : Bool) (outcome : Outcome) → OutcomeIs chain memory inputs name outcome → IsOutcome chain inputs name outcome
outcome_case chain inputs name true outcome told = subst (λ x. IsOutcome chain inputs name x) (sym told) tt
outcome_case chain inputs name false (Bound b) told = told
outcome_case chain inputs name false (Refused f) told = told
outcome_case chain inputs name false Memory told = absurd told

one_at_least : (memory : Bool) (n names : ℕ) → (if memory then 1 else 2 * n + 1) ≤ names → 1 ≤ names
one_at_least true n names le = le
one_at_least false n names le = omega (arith, le)

pub record Answers {V : Type 0} (chain : Chain) (feature : Feature V) (o : Opening) (k : Known) (entries : List Entry) (d : Stock V) (session : ℕ) : Type 0 where
  pub core : IsCore chain feature o entries d
  pub advances : Advances chain feature k (known o entries) session
  pub free : LeavesFree o entries session

module _ {V : Type 0} (chain : Chain) (feature : Feature V) (o : Opening) (h : List Entry) (d : Stock V) (core : IsCore chain feature o h d) (t : KnownTicket V) (owed room spare : ℕ)
    (asked : IsAsked feature o core.st d t)
    (rests : own_run t.session core.st.out ≡ None)
    (stable : IsStable feature o) (pinned : ArePinned o core.st) where
  abbrev ask : Ask
  ask = ask_with t asked.is_open.kinds

  abbrev own : ℕ → ℕ
  own k = stamp_at o core.st k t.at

  abbrev order : List ℕ
  order = order_of o.kinds

  abbrev pub new : State
  new = after_answer core.st t.session

  abbrev after_put : Had V × Lines V
  after_put = put t.name t.session (keys_at o core.st t.at order) t.had d.lines

  abbrev pub answered_stock : Stock V
  answered_stock = record d { lines = after_put.1; seats = with_seat t.session no_seat d.seats; owed = owed; spare = spare; room = room }

  abbrev Others : List ℕ → ℕ → ℕ → ℕ → Type 0
  Others n k s y = (y ≢ t.session) × HasKey o core.st n k s y

  mine_case : (n : List ℕ) (k s y : ℕ) → in_store (key_with k n s) (map row_of d.lines) ≡ true → HasKey o core.st n k s y → (same : Bool) → (y == t.session) ≡ same → PutsYet Others t.name t.session own order t.had n k s y
  mine_case n k s y stored has false apart = inl (eqb-false y t.session apart, has)
  mine_case n k s y stored has true same =
      let at : y ≡ t.session = eqb-true y t.session same in
      let mine : has.ask ≡ ask = some_same has.ask ask (sym has.asked ∙ ap (λ x. ask_at x core.st.asks) at ∙ asked.asked) in
      let owns : OwnHas t.name t.session own t.had n k s y = (at, sym has.name_is ∙ ap (λ (a : Ask). a.name) mine, ap (λ (a : Ask). stamp_at o core.st k a.at) (sym mine) ∙ has.own, sym (asked.is_open.same k) ∙ ap (λ (a : Ask). has_kind k a.kinds) (sym mine) ∙ has.has) in
      inr (owns, core.parts.tidy.listed n k s (ap (in_store (key_with k n s)) core.parts.lines.rows ∙ stored))

  yet : AreCopiedBut o (PutsYet Others t.name t.session own order t.had) d.lines
  yet n k s y is stored = ⊎_elim (λ (found : IsSome (copy_for n k s y d.lines)). inl found) (λ (has : HasKey o core.st n k s y). inr (mine_case n k s y stored has (y == t.session) refl)) (core.parts.lines.copied n k s y is stored)

  puts : IsPut o Others t.name t.session own t.had d.lines after_put.1 [] after_put.0
  puts = put_is o Others t.name t.session own (omega (arith, asked.place, core.parts.seated.asks)) 11 order t.had d.lines core.parts.lines.apart core.parts.lines.shaped yet

  pub leaves : LeavesOthers t.session core.st new
  leaves = record { asks = λ s other. asked_other s t.session None core.st.asks other; runs = λ s other. refl; more = []; edits = sym (append-nil core.st.edits) }

  lines_now : AreLines feature o new after_put.1
  lines_now =
      record {
        rows = core.parts.lines.rows ∙ sym puts.rows;
        apart = subst (λ ns. AreApart ns) (sym puts.named) core.parts.lines.apart;
        shaped = puts.shaped 11 core.parts.lines.shaped;
        copied = λ n k s y is stored.
            ⊎_elim (λ (found : IsSome (copy_for n k s y after_put.1)). inl found)
            (λ (left : PutsYet Others t.name t.session own [] after_put.0 n k s y).
            inr (⊎_elim (λ (other : Others n k s y). has_later o t.session core.st new n k s y leaves pinned is other.0 other.1)
            (λ (none : OwnHas t.name t.session own after_put.0 n k s y × (has_kind k [] ≡ true)). absurd (false≢true none.1)) left))
            (puts.copied n k s y is stored);
        right = λ n k s y a is.
            ⊎_elim (λ (old : copy_for n k s y d.lines ≡ Some a). core.parts.lines.right n k s y a old)
            (λ (back : (n ≡ t.name) × (own k ≡ s) × (arc_at k t.had ≡ Some a)).
            let here = right_from feature o core.st k t.name a.value stable t.at s asked.seated.pinned back.1 (subst (λ i. feature k i t.name a.value) asked.is_open.inputs (asked.is_open.features k a back.2)) in
            subst (λ m. IsRightFor feature o core.st m k s a.value) (sym back.0) here)
            (puts.was n k s y a is);
      }

  names_left : 1 ≤ length (seat_at t.session d.seats).names
  names_left = let needed = names_of o core.st t.session ask (seat_at t.session d.seats) rests asked.seated in one_at_least t.memory (lacking o ask) (length (seat_at t.session d.seats).names) needed

  closed : ask_at t.session new.asks ≡ None
  closed = asked_same t.session None core.st.asks asked.place

  seats_case : (s : ℕ) → is_session o s ≡ true → (same : Bool) → (s == t.session) ≡ same → SeatIs o new s (ask_at s new.asks) (seat_at s (with_seat t.session no_seat d.seats))
  seats_case s is true same =
      let at : s ≡ t.session = eqb-true s t.session same in
      let S : ℕ → Type 0 = λ x. SeatIs o new x (ask_at x new.asks) (seat_at x (with_seat t.session no_seat d.seats)) in
      let A : Option Ask → Type 0 = λ a. SeatIs o new t.session a (seat_at t.session (with_seat t.session no_seat d.seats)) in
      let B : KnownSeat → Type 0 = λ x. SeatIs o new t.session None x in
      subst S (sym at) (subst A (sym closed) (subst B (sym (seat_same t.session no_seat d.seats asked.place_seats)) (rests, refl)))
  seats_case s is false apart =
      let other : (s ≢ t.session) = eqb-false s t.session apart in
      subst (λ x. SeatIs o new s (ask_at s new.asks) x) (sym (seat_other s t.session no_seat d.seats other)) (seat_later o t.session s core.st new (seat_at s d.seats) leaves other (core.parts.seated.each s is))

  pub parts_now : owed + length (seat_at t.session d.seats).names ≡ d.owed → d.room ≤ room → owed ≤ spare → AreParts feature o new (length h + 1) answered_stock
  parts_now less within stored =
      let parts = core.parts in
      record {
        inputs = record { inputs = parts.inputs.inputs; count = parts.inputs.count; keys = parts.inputs.keys };
        lines = lines_now;
        tidy = record { current = parts.tidy.current; listed = parts.tidy.listed; single = parts.tidy.single; once = parts.tidy.once; fresh = parts.tidy.fresh; alone = parts.tidy.alone };
        works = works_later o core.st new d.home d.out (length h) refl refl parts.works;
        seated = record { asks = length-with_ask t.session None core.st.asks ∙ parts.seated.asks; seats = length-seats t.session no_seat d.seats ∙ parts.seated.seats; each = λ s is. seats_case s is (s == t.session) refl };
        owes = omega (arith, less, parts.owes, names_with t.session no_seat d.seats asked.place_seats);
        within = omega (arith, less, parts.within, within, names_left);
        stored = stored;
        counted = omega (arith, parts.counted);
      }

  free_now : is_free o new t.session ≡ true
  free_now = and_both (is_session o t.session) (is_none (ask_at t.session new.asks)) asked.known_is (ap (λ (a : Option Ask). is_none a) closed)

  pub answered : (k : Known) (view : known o h ≡ k) (entries : List Entry) (outcome : Outcome) → next_turn o core.st ask ≡ answers → OutcomeIs chain t.memory (after o.image t.at h) t.name outcome → entries ≡ h ++ Answer t.session t.name t.at outcome ∷ []
      → owed + length (seat_at t.session d.seats).names ≡ d.owed → d.room ≤ room → owed ≤ spare → Answers chain feature o k entries answered_stock t.session
  answered k view entries outcome turn told entries_are less within stored =
      let reach = answers_reach o core.st ask core.runs.bound turn in
      let m = moved chain feature o h d k view core entries (Answer t.session t.name t.at outcome) new answered_stock entries_are
      (step_answer o core.st ask t.session outcome asked.is_open.ask rests (right_case chain (after o.image t.at h) t.name t.memory (within_reach o core.st ask bound_kind) outcome reach told))
      (outcome_case chain (after o.image t.at h) t.name t.memory outcome told) (sym (append-nil core.st.edits)) leaves (parts_now less within stored) in
      record { core = m.core; advances = m.advances; free = record { st = new; state = m.state; free = free_now } }
