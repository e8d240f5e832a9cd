-- A start: what the ask takes, and the work that goes out.
use Rattle.std.proofs.Common.{◌≡◌, ◌≢◌, ℕ, ◌+◌, ◌*◌, ◌<◌, ◌≤◌, ◌&&◌, ◌||◌, ◌==◌, ◌⊎◌, Bool, true, false, inl, inr, ⊎_elim, List, [], ◌∷◌, ◌++◌, length, reverse, Option, None, Some, IsSome, is_some, refl, sym, ap, ap₂, subst, ◌∙◌, arith, length-append}
use Rattle.std.specs.List.{All}
use Rattle.std.proofs.lemmas.Bool.{eq-eqb, eqb-true, false≢true}
use Rattle.std.proofs.lemmas.List.{append-nil}
use Rattle.std.proofs.lemmas.List.Elements.{All-append, All-cons, All-nil, All-weaker}
use Rattle.std.proofs.lemmas.List.Folds.{list_any-append}
use Rattle.wc_base.proofs.TestLemmas.{if_false}
use Rattle.wc_model.specs.declared.entries.Entry.{Entry}
use Rattle.wc_model.specs.Workspace.Closures.{has_kind, order_of}
use Rattle.wc_model.specs.Workspace.History.{Chain, after_start, key_with, taken}
use Rattle.wc_model.specs.Workspace.States.{Opening, Key, State, Run, Ask, all_but_last, ask_at, home_of, in_store, is_session, is_stored, key_of, last_of, own_run, same_key, stamp_at}
use Rattle.wc_model.proofs.Sharing.{LeavesOthers, asked_other, asked_same, length-with_ask, run_other}
use Rattle.wc_core.specs.Features.{arc_at}
use Rattle.wc_core.specs.Fits.{Feature}
use Rattle.wc_core.specs.Inner.Lines.{AreApart, copy_for}
use Rattle.wc_core.specs.Inner.Moves.{Had, Lines, pulled}
use Rattle.wc_core.specs.Inner.Seats.{KnownSeat, seat_at, with_seat}
use Rattle.wc_core.specs.Inner.Stocks.{AreCopiedBut, AreLines, AreParts, AreWorks, HasKey, IsCore, IsSeated, IsTidy, RunIs, SeatIs, Stock, keys_at, lacking, names_needed}
use Rattle.wc_core.specs.Inner.Works.{IsTaken, run_with, runs_with}
use Rattle.wc_core.specs.Views.{KnownTicket, ask_with}
use Rattle.wc_core.proofs.AskLemmas.{IsAsked, names_of}
use Rattle.wc_core.proofs.CoreLemmas.{ArePinned, has_later, seat_later}
use Rattle.wc_core.proofs.KeyLemmas.{has_filter, none_same, same_turned}
use Rattle.wc_core.proofs.PullLemmas.{Excused, IsPulled, OwnHas, pulled_is}
use Rattle.wc_core.proofs.SeatLemmas.{lacks_fewer, length-seats, names_with, seat_other, seat_same}
use Rattle.wc_core.proofs.TurnLemmas.{CanStart, Starts, can_start}
use Rattle.wc_core.proofs.WorkLemmas.{front_snoc, home_names, home_other, home_same, last_snoc, once_new, reverse_cons, own_new, taken_all, taken_others, taken_runs}

-- two names are taken from the seat
pub record IsShort (old new : KnownSeat) : Type 0 where
  pub keys : new.keys ≡ old.keys
  pub names : (n : List ℕ) → All (λ m. m ≡ n) old.names → All (λ m. m ≡ n) new.names
  pub fewer : length new.names + 2 ≡ length old.names

module _ {V : Type 0} (chain : Chain) (feature : Feature V) (o : Opening) (h : List Entry) (d : Stock V) (core : IsCore chain feature o h d) (t : KnownTicket V) (kind runs owed room spare : ℕ)
    (asked : IsAsked feature o core.st d t)
    (rests : own_run t.session core.st.out ≡ None)
    (turn : Starts o core.st (ask_with t asked.is_open.kinds) kind)
    (home : List (ℕ × ℕ)) (sent : IsTaken kind runs d.home home)
    (seat : KnownSeat) (short : IsShort (seat_at t.session d.seats) seat) where
  abbrev ask : Ask
  ask = ask_with t asked.is_open.kinds

  abbrev own : ℕ → ℕ
  own k = stamp_at o core.st k t.at

  abbrev key : Key
  key = key_of o core.st ask kind

  abbrev order : List ℕ
  order = order_of o.kinds

  pub can : CanStart o core.st t.session ask kind
  can = can_start o core.st t.session ask kind rests turn

  abbrev pub new : State
  new = after_start o core.st t.session key ask runs

  abbrev pub new_ask : Ask
  new_ask = record ask { kinds = ask.kinds ++ taken o core.st ask }

  abbrev pub run : Run
  run = run_with t.session kind t.name (own kind) runs

  abbrev pub after : Had V × Lines V
  after = pulled t.name t.session (keys_at o core.st t.at order) t.had d.lines

  abbrev pub started_stock : Stock V
  started_stock = record d { lines = after.1; home = home; out = d.out ++ run ∷ []; seats = with_seat t.session seat d.seats; owed = owed; spare = spare; room = room }

  abbrev Others : List ℕ → ℕ → ℕ → ℕ → Type 0
  Others n k s y = (y ≢ t.session) × HasKey o core.st n k s y

  had_is : (k : ℕ) → has_kind k ask.kinds ≡ is_some (arc_at k t.had)
  had_is k = asked.is_open.same k

  but_mine : AreCopiedBut o (Excused Others t.name t.session own t.had) d.lines
  but_mine n k s y is stored =
      ⊎_elim (λ (found : IsSome (copy_for n k s y d.lines)). inl found) (λ (has : HasKey o core.st n k s y). inr (by has (y == t.session) refl)) (core.parts.lines.copied n k s y is stored) where
        by : HasKey o core.st n k s y → (same : Bool) → (y == t.session) ≡ same → Excused Others t.name t.session own t.had n k s y
        by has false apart = inl ((λ (at : y ≡ t.session). false≢true (sym apart ∙ eq-eqb y t.session at)), has)
        by has true same =
            let at : y ≡ t.session = eqb-true y t.session same in
            let mine : has.ask ≡ ask = (let both = sym has.asked ∙ ap (λ x. ask_at x core.st.asks) at ∙ asked.asked in cc) in
            inr (at, sym has.name_is ∙ ap (λ (a : Ask). a.name) mine, ap (λ (a : Ask). stamp_at o core.st k a.at) (sym mine) ∙ has.own, sym (had_is k) ∙ ap (λ (a : Ask). has_kind k a.kinds) (sym mine) ∙ has.has)

  pub pulls : length t.had ≡ 65 → IsPulled o Others t.name t.session own order t.had after.0 d.lines after.1
  pulls wide = pulled_is o Others t.name t.session own asked.known_is (λ n k s (both : (t.session ≢ t.session) × HasKey o core.st n k s t.session). both.0 refl) order t.had d.lines core.runs.below core.parts.lines.apart but_mine wide

  -- what the ask has then
  pub has_now : length t.had ≡ 65 → (j : ℕ) → has_kind j new_ask.kinds ≡ is_some (arc_at j after.0)
  has_now wide j =
      list_any-append (λ k. k == j) ask.kinds (taken o core.st ask)
      ∙ ap₂ (λ a b. a || b) (had_is j) (has_filter (is_stored o core.st ask) j order)
      ∙ ap (λ rs. is_some (arc_at j t.had) || (has_kind j order && in_store (key_with j t.name (own j)) rs)) core.parts.lines.rows
      ∙ sym ((pulls wide).has j)

  pub leaves : LeavesOthers t.session core.st new
  leaves =
      record {
        asks = λ s other. asked_other s t.session (Some new_ask) core.st.asks other;
        runs = λ s other. run_other s core.st.out run (λ (at : t.session ≡ s). other (sym at));
        more = [];
        edits = sym (append-nil core.st.edits);
      }

  pub asked_now : ask_at t.session new.asks ≡ Some new_ask
  asked_now = asked_same t.session (Some new_ask) core.st.asks asked.place

  reversed : home_of kind core.st.home ≡ reverse (runs_with kind home) ++ runs ∷ []
  reversed = core.parts.works.home_is kind ∙ ap reverse (taken_runs kind runs d.home home sent) ∙ reverse_cons runs (runs_with kind home)

  pub last : last_of (home_of kind core.st.home) ≡ Some runs
  last = ap last_of reversed ∙ last_snoc (reverse (runs_with kind home)) runs

  front : all_but_last (home_of kind core.st.home) ≡ reverse (runs_with kind home)
  front = ap all_but_last reversed ∙ front_snoc (reverse (runs_with kind home)) runs

  lines_now : length t.had ≡ 65 → ArePinned o core.st → AreLines feature o new after.1
  lines_now wide pinned =
      let p = pulls wide in
      record {
        rows = core.parts.lines.rows ∙ sym p.rows;
        apart = subst (λ ns. AreApart ns) (sym p.named) core.parts.lines.apart;
        shaped = p.shaped 11 (o.sessions + 1) core.parts.lines.shaped;
        copied = λ n k s y is stored.
            ⊎_elim (λ (found : IsSome (copy_for n k s y after.1)). inl found)
            (λ (excused : Excused Others t.name t.session own after.0 n k s y).
            inr (⊎_elim (λ (other : Others n k s y). has_later o t.session core.st new n k s y leaves pinned is other.0 other.1)
            (λ (mine : OwnHas t.name t.session own after.0 n k s y).
            record {
              ask = new_ask;
              asked = ap (λ x. ask_at x new.asks) mine.0 ∙ asked_now;
              name_is = sym mine.1;
              has = has_now wide k ∙ mine.3;
              own = mine.2;
            }) excused))
            (p.copied n k s y is stored);
        right = λ n k s y a is. core.parts.lines.right n k s y a (p.was n k s y a is);
      }

  -- the runs that are out
  run_case : (y : ℕ) (r : Run) (same : Bool) → (y == t.session) ≡ same → own_run y new.out ≡ Some r → ((y ≡ t.session) × (run ≡ r)) ⊎ ((y ≢ t.session) × (own_run y core.st.out ≡ Some r))
  run_case y r true is at =
      let here : y ≡ t.session = eqb-true y t.session is in
      inl (here, let both : Some run ≡ Some r = sym (ap (λ x. own_run x new.out) here ∙ own_new core.st.out run rests) ∙ at in cc)
  run_case y r false is at =
      let other : (y ≢ t.session) = λ (here : y ≡ t.session). false≢true (sym is ∙ eq-eqb y t.session here) in
      inr (other, sym (leaves.runs y other) ∙ at)

  run_is : (y : ℕ) (r : Run) → own_run y new.out ≡ Some r → ((y ≡ t.session) × (run ≡ r)) ⊎ ((y ≢ t.session) × (own_run y core.st.out ≡ Some r))
  run_is y r at = run_case y r (y == t.session) refl at

  alone_now : (x y : ℕ) (r s : Run) → x ≢ y → own_run x new.out ≡ Some r → own_run y new.out ≡ Some s → same_key r.key s.key ≡ false
  alone_now x y r s apart at_x at_y =
      ⊎_elim
      (λ (first : (x ≡ t.session) × (run ≡ r)).
      ⊎_elim (λ (second : (y ≡ t.session) × (run ≡ s)). absurd (apart (first.0 ∙ sym second.0)))
      (λ (second : (y ≢ t.session) × (own_run y core.st.out ≡ Some s)). ap (λ (q : Run). same_key q.key s.key) (sym first.1) ∙ same_turned key s.key ∙ none_same key y s core.st.out can.out second.1)
      (run_is y s at_y))
      (λ (first : (x ≢ t.session) × (own_run x core.st.out ≡ Some r)).
      ⊎_elim (λ (second : (y ≡ t.session) × (run ≡ s)). ap (λ (q : Run). same_key r.key q.key) (sym second.1) ∙ none_same key x r core.st.out can.out first.1)
      (λ (second : (y ≢ t.session) × (own_run y core.st.out ≡ Some s)). core.parts.tidy.alone x y r s apart first.1 second.1)
      (run_is y s at_y))
      (run_is x r at_x)

  tidy_now : IsTidy o new
  tidy_now =
      record {
        current = core.parts.tidy.current;
        listed = core.parts.tidy.listed;
        single = core.parts.tidy.single;
        once = once_new core.st.out run core.parts.tidy.once rests;
        fresh = λ y r at.
            ⊎_elim (λ (mine : (y ≡ t.session) × (run ≡ r)). ap (λ (q : Run). in_store q.key core.st.rows) (sym mine.1) ∙ can.unstored)
            (λ (other : (y ≢ t.session) × (own_run y core.st.out ≡ Some r)). core.parts.tidy.fresh y r other.1)
            (run_is y r at);
        alone = alone_now;
      }

  home_case : (j : ℕ) (same : Bool) → (kind == j) ≡ same → home_of j new.home ≡ reverse (runs_with j home)
  home_case j true is =
      let here : kind ≡ j = eqb-true kind j is in
      ap (λ k. home_of k new.home) (sym here)
      ∙ home_same kind (all_but_last (home_of kind core.st.home)) core.st.home (ap (has_kind kind) core.parts.works.listed ∙ can.listed)
      ∙ front ∙ ap (λ k. reverse (runs_with k home)) here
  home_case j false is =
      let other : (kind ≢ j) = λ (here : kind ≡ j). false≢true (sym is ∙ eq-eqb kind j here) in
      home_other kind j (all_but_last (home_of kind core.st.home)) core.st.home other ∙ core.parts.works.home_is j ∙ ap reverse (taken_others kind runs d.home home sent j other)

  works_now : AreWorks o new home (d.out ++ run ∷ []) (length h + 1)
  works_now =
      let few = taken_all kind runs d.home home sent (λ (w : ℕ × ℕ). w.1 ≤ length h) core.parts.works.few_home in
      record {
        listed = home_names kind (all_but_last (home_of kind core.st.home)) core.st.home ∙ core.parts.works.listed;
        home_is = λ j. home_case j (kind == j) refl;
        out_is = ap (λ out. out ++ run ∷ []) core.parts.works.out_is;
        few_home = All-weaker (λ (w : ℕ × ℕ). w.1 ≤ length h) (λ (w : ℕ × ℕ). w.1 ≤ length h + 1) (λ w le. omega (arith, le)) home few.0;
        few_out = All-append (λ (r : Run). r.runs < length h + 1) d.out (run ∷ [])
            (All-weaker (λ (r : Run). r.runs < length h) (λ (r : Run). r.runs < length h + 1) (λ r le. omega (arith, le)) d.out core.parts.works.few_out)
            (All-cons (λ (r : Run). r.runs < length h + 1) run [] (omega (arith, few.1)) (All-nil (λ (r : Run). r.runs < length h + 1)));
      }

  lacks_now : has_kind kind new_ask.kinds ≡ false
  lacks_now =
      list_any-append (λ k. k == kind) ask.kinds (taken o core.st ask)
      ∙ ap₂ (λ a b. a || b) can.lacks (has_filter (is_stored o core.st ask) kind order ∙ ap (λ b. has_kind kind order && b) can.unstored ∙ none (has_kind kind order)) where
        none : (b : Bool) → (b && false) ≡ false
        none true = refl
        none false = refl

  more_now : (k : ℕ) → has_kind k ask.kinds ≡ true → has_kind k new_ask.kinds ≡ true
  more_now k is = list_any-append (λ j. j == k) ask.kinds (taken o core.st ask) ∙ ap (λ b. b || has_kind k (taken o core.st ask)) is

  seat_now : IsSeated o new t.session new_ask seat
  seat_now =
      let names = names_of o core.st t.session ask (seat_at t.session d.seats) rests asked.seated in
      let needed : names_needed o ask ≡ 2 * lacking o ask + 1 = if_false ask.memory 1 (2 * lacking o ask + 1) turn.quiet in
      record {
        keys = short.keys ∙ asked.seated.keys;
        names = short.names t.name asked.seated.names;
        pinned = asked.seated.pinned;
        run = subst (λ r. RunIs o new new_ask seat r) (sym (own_new core.st.out run rests))
            (record {
              name_is = refl;
              own = refl;
              listed = can.listed;
              lacks = lacks_now;
              quiet = turn.quiet;
              room = omega (arith, names, needed, short.fewer, lacks_fewer ask.kinds new_ask.kinds order more_now);
            });
      }

  seats_case : (s : ℕ) → is_session o s ≡ true → (same : Bool) → (s == t.session) ≡ same → SeatIs o new s (ask_at s new.asks) (seat_at s (with_seat t.session seat d.seats))
  seats_case s is true same =
      let at : s ≡ t.session = eqb-true s t.session same in
      let S : ℕ → Type 0 = λ x. SeatIs o new x (ask_at x new.asks) (seat_at x (with_seat t.session seat d.seats)) in
      let A : Option Ask → Type 0 = λ a. SeatIs o new t.session a (seat_at t.session (with_seat t.session seat d.seats)) in
      let B : KnownSeat → Type 0 = λ x. SeatIs o new t.session (Some new_ask) x in
      subst S (sym at) (subst A (sym asked_now) (subst B (sym (seat_same t.session seat d.seats asked.place_seats)) seat_now))
  seats_case s is false apart =
      let other : (s ≢ t.session) = λ (at : s ≡ t.session). false≢true (sym apart ∙ eq-eqb s t.session at) in
      subst (λ x. SeatIs o new s (ask_at s new.asks) x) (sym (seat_other s t.session seat d.seats other)) (seat_later o t.session s core.st new (seat_at s d.seats) leaves other (core.parts.seated.each s is))

  pub parts_now : length t.had ≡ 65 → ArePinned o core.st → owed + 1 ≡ d.owed → d.room ≤ room → owed ≤ spare → AreParts feature o new (length h + 1) started_stock
  parts_now wide pinned one within stored =
      let parts = core.parts in
      record {
        inputs = record { inputs = parts.inputs.inputs; count = parts.inputs.count; keys = parts.inputs.keys };
        lines = lines_now wide pinned;
        tidy = tidy_now;
        works = works_now;
        seated = record { asks = length-with_ask t.session (Some new_ask) core.st.asks ∙ parts.seated.asks; seats = length-seats t.session seat d.seats ∙ parts.seated.seats; each = λ s is. seats_case s is (s == t.session) refl };
        owes = omega (arith, one, parts.owes, names_with t.session seat d.seats asked.place_seats, short.fewer, length-append d.out (run ∷ []));
        within = omega (arith, one, parts.within, within);
        stored = stored;
        counted = omega (arith, parts.counted);
      }
