-- A finish: the work comes home, and what it gave is kept where it is current.
use Rattle.std.proofs.Common.{◌≡◌, ◌≢◌, ℕ, ◌+◌, ◌*◌, ◌<◌, ◌≤◌, ◌&&◌, ◌||◌, ◌==◌, ◌⊎◌, Bool, true, false, not, cond, inl, inr, ⊎_elim, List, [], ◌∷◌, ◌++◌, length, map, reverse, Option, None, Some, IfSome, IsSome, is_some, refl, sym, ap, ap₂, subst, ◌∙◌, arith, length-append, if◌then◌else◌}
use Rattle.std.specs.Global.{Global}
use Rattle.std.specs.List.{All, find, list_any}
use Rattle.std.specs.Option.{option_and_then}
use Rattle.std.specs.declared.sync.Arc.{Arc}
use Rattle.std.proofs.lemmas.Bool.{eq-eqb, eqb-true, eqb-false, false≢true}
use Rattle.std.proofs.lemmas.List.{append-nil}
use Rattle.std.proofs.lemmas.List.Elements.{All-append, All-cons, All-head, All-nil, All-tail, All-weaker}
use Rattle.std.proofs.lemmas.List.Folds.{list_any-append}
use Rattle.std.proofs.lemmas.Option.{none-some, same_Some}
use Rattle.wc_base.proofs.TestLemmas.{if_true, if_false}
use Rattle.wc_model.specs.declared.entries.End.{End}
use Rattle.wc_model.specs.declared.entries.End.TheVariants.{Kept, Dropped, Memory}
use Rattle.wc_model.specs.declared.entries.Entry.{Entry}
use Rattle.wc_model.specs.Workspace.Closures.{has_kind, order_of}
use Rattle.wc_model.specs.Workspace.History.{Chain, after_finish, ask_after, key_with, right_end, rows_after}
use Rattle.wc_model.specs.Workspace.States.{Opening, Key, State, Row, Run, Ask, ask_at, count_of, has_key, home_of, in_store, is_session, own_run, same_key, same_name, stamp_at, with_ask, with_home, without_own}
use Rattle.wc_model.proofs.Sharing.{LeavesOthers, asked_other, asked_same, in_other, length-with_ask}
use Rattle.wc_model.proofs.StepLemmas.{some_same}
use Rattle.wc_core.specs.Features.{arc_at}
use Rattle.wc_core.specs.Fits.{Feature, run_of}
use Rattle.wc_core.specs.Inner.Ends.{end_for}
use Rattle.wc_core.specs.Inner.Gifts.{IsGift, KnownGift, gift_value}
use Rattle.wc_core.specs.Inner.Lines.{AreApart, HasPlace, Line, copy_for, kept, names, row_of}
use Rattle.wc_core.specs.Inner.Moves.{Lines, settled, settled_lines}
use Rattle.wc_core.specs.Inner.Seats.{KnownSeat, all_names, seat_at}
use Rattle.wc_core.specs.Inner.Shelves.{KnownShelf, copy_of}
use Rattle.wc_core.specs.Inner.Stocks.{AreLines, AreParts, AreWorks, AreSingle, HasKey, IsCore, IsOut, IsRightFor, IsSeated, IsTidy, RunIs, SeatIs, Stock, keys_at, lacking, names_needed}
use Rattle.wc_core.specs.Inner.Works.{runs_with}
use Rattle.wc_core.specs.Views.{KnownTicket, ask_with}
use Rattle.wc_core.proofs.AskLemmas.{IsAsked}
use Rattle.wc_core.proofs.CopyLemmas.{same_name_refl}
use Rattle.wc_core.proofs.CoreLemmas.{ArePinned, has_later, seat_later, session_within}
use Rattle.wc_core.proofs.DepartLemmas.{some_at}
use Rattle.wc_core.proofs.FeatureLemmas.{IsStable, right_from}
use Rattle.wc_core.proofs.FindLemmas.{found_all, then_some}
use Rattle.wc_core.proofs.KeptLemmas.{kept_apart, kept_found, kept_rows, kept_shapes}
use Rattle.wc_core.proofs.LineLemmas.{equal_turned, name_is}
use Rattle.wc_core.proofs.RowLemmas.{fewer_keys, no_kind, row_stored, single_stored}
use Rattle.wc_core.proofs.SeatLemmas.{count_lacks, lacks_one}
use Rattle.wc_core.proofs.ShelfLemmas.{copy_is, find_shelf, stored_is}
use Rattle.wc_core.proofs.StepLemmas.{same_key_refl}
use Rattle.wc_core.proofs.WorkLemmas.{all_without, home_names, home_other, home_same, length-without, once_without, own_gone, reverse_cons, runs_one, runs_other}

-- whether a stamp is current
current_case : (S : ℕ → ℕ) (kind stamp k : ℕ) (ks : List ℕ) (here : Bool) → (k == kind) ≡ here → has_key kind stamp (map (λ j. (j, S j)) ks) ≡ (has_kind kind ks && (S kind == stamp)) → ((here && (S k == stamp)) || has_key kind stamp (map (λ j. (j, S j)) ks)) ≡ ((here || has_kind kind ks) && (S kind == stamp))
current_case S kind stamp k ks false is later = later
current_case S kind stamp k ks true is later = ap₂ (λ a b. a || b) (ap (λ j. S j == stamp) (eqb-true k kind is)) later ∙ absorbed (S kind == stamp) (has_kind kind ks) where
  absorbed : (a b : Bool) → (a || (b && a)) ≡ a
  absorbed true b = refl
  absorbed false true = refl
  absorbed false false = refl

has_current : (S : ℕ → ℕ) (kind stamp : ℕ) (order : List ℕ) → has_key kind stamp (map (λ j. (j, S j)) order) ≡ (has_kind kind order && (S kind == stamp))
has_current S kind stamp [] = refl
has_current S kind stamp (k ∷ ks) = current_case S kind stamp k ks (k == kind) refl (has_current S kind stamp ks)

-- the ask after a finish
pub record IsLater (kind : ℕ) (old new : Ask) : Type 0 where
  pub name : new.name ≡ old.name
  pub at : new.at ≡ old.at
  pub more : (k : ℕ) → has_kind k old.kinds ≡ true → has_kind k new.kinds ≡ true

with_kind : (kinds : List ℕ) (kind k : ℕ) → has_kind k kinds ≡ true → has_kind k (kinds ++ kind ∷ []) ≡ true
with_kind kinds kind k is = list_any-append (λ j. j == k) kinds (kind ∷ []) ∙ ap (λ b. b || has_kind k (kind ∷ [])) is

later_ask : (end : End) (kind : ℕ) (ask : Ask) → IsLater kind ask (ask_after end kind ask)
later_ask Kept kind ask = record { name = refl; at = refl; more = λ k is. with_kind ask.kinds kind k is }
later_ask Dropped kind ask = record { name = refl; at = refl; more = λ k is. with_kind ask.kinds kind k is }
later_ask Memory kind ask = record { name = refl; at = refl; more = λ k is. is }

pub has_last : (kinds : List ℕ) (kind : ℕ) → has_kind kind (kinds ++ kind ∷ []) ≡ true
has_last kinds kind = list_any-append (λ j. j == kind) kinds (kind ∷ []) ∙ last (has_kind kind kinds) where
  last : (b : Bool) → (b || ((kind == kind) || false)) ≡ true
  last true = refl
  last false = ap (λ c. c || false) (eq-eqb kind kind refl)

-- A landed value that fits, at the core's own state.
pub record IsLanding {V : Type 0} (feature : Feature V) (o : Opening) (st : State) (d : Stock V) (t : KnownTicket V) (kind stamp runs : ℕ) (gave : Option (KnownGift V)) (current : Bool) : Type 0 where
  pub asked : IsAsked feature o st d t
  pub flies : own_run t.session st.out ≡ Some (run_of t kind stamp runs)
  pub current_is : current ≡ has_key kind stamp d.keys
  pub gift : IfSome gave (IsGift o.sessions t.session t.name)
  pub value : IfSome gave (λ g. feature kind t.inputs t.name g.own.value)

module _ {V : Type 0} (chain : Chain) (feature : Feature V) (o : Opening) (h : List Entry) (d : Stock V) (core : IsCore chain feature o h d) (t : KnownTicket V) (kind stamp runs owed room spare : ℕ) (gave : Option (KnownGift V)) (current : Bool)
    (landing : IsLanding feature o core.st d t kind stamp runs gave current) (stable : IsStable feature o) (pinned : ArePinned o core.st) where
  abbrev pub asked : IsAsked feature o core.st d t
  asked = landing.asked

  abbrev pub ask : Ask
  ask = ask_with t asked.is_open.kinds

  abbrev pub run : Run
  run = run_of t kind stamp runs

  abbrev pub order : List ℕ
  order = order_of o.kinds

  abbrev pub end_now : End
  end_now = end_for (is_some gave) current

  abbrev pub new : State
  new = after_finish core.st t.session run.key end_now ask run

  abbrev pub new_ask : Ask
  new_ask = ask_after end_now kind ask

  abbrev pub lines_now : Lines V
  lines_now = settled_lines kind stamp current gave d.lines

  abbrev pub finished_stock : Stock V
  finished_stock = record d { lines = lines_now; home = (kind, runs + 1) ∷ d.home; out = without_own t.session d.out; owed = owed; spare = spare; room = room }

  pub out_is : IsOut o core.st ask (seat_at t.session d.seats) run
  out_is = let R : Option Run → Type 0 = λ r. RunIs o core.st ask (seat_at t.session d.seats) r in subst R landing.flies asked.seated.run

  pub is_current : current ≡ (stamp == stamp_at o core.st kind (count_of core.st))
  is_current =
      landing.current_is ∙ ap (has_key kind stamp) core.parts.inputs.keys ∙ has_current (λ k. stamp_at o core.st k (count_of core.st)) kind stamp order
      ∙ ap (λ b. b && (stamp_at o core.st kind (count_of core.st) == stamp)) out_is.listed ∙ equal_turned (stamp_at o core.st kind (count_of core.st)) stamp

  right_case : (some current' : Bool) → current' ≡ (stamp == stamp_at o core.st kind (count_of core.st)) → right_end (end_for some current') (stamp == stamp_at o core.st kind (count_of core.st)) ≡ true
  right_case false c is = refl
  right_case true true is = sym is
  right_case true false is = ap not (sym is)

  pub right : right_end end_now (stamp == stamp_at o core.st kind (count_of core.st)) ≡ true
  right = right_case (is_some gave) current is_current

  pub leaves : LeavesOthers t.session core.st new
  leaves =
      record {
        asks = λ s other. asked_other s t.session (Some new_ask) core.st.asks other;
        runs = λ s other. in_other s t.session core.st.out other;
        more = [];
        edits = sym (append-nil core.st.edits);
      }

  pub asked_now : ask_at t.session new.asks ≡ Some new_ask
  asked_now = asked_same t.session (Some new_ask) core.st.asks asked.place

  pub later : IsLater kind ask new_ask
  later = later_ask end_now kind ask

  -- who had a key has it
  has_case : (n : List ℕ) (k s y : ℕ) → is_session o y ≡ true → HasKey o core.st n k s y → (same : Bool) → (y == t.session) ≡ same → HasKey o new n k s y
  has_case n k s y is has false apart = has_later o t.session core.st new n k s y leaves pinned is (eqb-false y t.session apart) has
  has_case n k s y is has true same =
      let at : y ≡ t.session = eqb-true y t.session same in
      let mine : has.ask ≡ ask = some_same has.ask ask (sym has.asked ∙ ap (λ x. ask_at x core.st.asks) at ∙ asked.asked) in
      record {
        ask = new_ask;
        asked = ap (λ x. ask_at x new.asks) at ∙ asked_now;
        name_is = later.name ∙ ap (λ (a : Ask). a.name) (sym mine) ∙ has.name_is;
        has = later.more k (ap (λ (a : Ask). has_kind k a.kinds) (sym mine) ∙ has.has);
        own = ap (stamp_at o core.st k) (later.at ∙ ap (λ (a : Ask). a.at) (sym mine)) ∙ has.own;
      }

  pub has_now : (n : List ℕ) (k s y : ℕ) → is_session o y ≡ true → HasKey o core.st n k s y → HasKey o new n k s y
  has_now n k s y is has = has_case n k s y is has (y == t.session) refl

  -- no key of the kind is stored under the name, where the stamp is current
  pub none_kept : current ≡ true → (s : ℕ) → in_store (key_with kind t.name s) core.st.rows ≡ false
  none_kept is s = by (in_store (key_with kind t.name s) core.st.rows) refl where
    by : (b : Bool) → in_store (key_with kind t.name s) core.st.rows ≡ b → b ≡ false
    by false at = refl
    by true at =
        let same : s ≡ stamp = core.parts.tidy.current t.name kind s at ∙ sym (eqb-true stamp (stamp_at o core.st kind (count_of core.st)) (sym is_current ∙ is)) in
        absurd (false≢true (sym (core.parts.tidy.fresh t.session run landing.flies) ∙ ap (λ x. in_store (key_with kind t.name x) core.st.rows) (sym same) ∙ at))

  -- the works
  home_case : (j : ℕ) (same : Bool) → (kind == j) ≡ same → home_of j new.home ≡ reverse (runs_with j ((kind, runs + 1) ∷ d.home))
  home_case j true is =
      let here : kind ≡ j = eqb-true kind j is in
      ap (λ k. home_of k new.home) (sym here)
      ∙ home_same kind (home_of kind core.st.home ++ (runs + 1) ∷ []) core.st.home (ap (has_kind kind) core.parts.works.listed ∙ out_is.listed)
      ∙ ap (λ l. l ++ (runs + 1) ∷ []) (core.parts.works.home_is kind)
      ∙ sym (ap reverse (runs_one kind (runs + 1) d.home) ∙ reverse_cons (runs + 1) (runs_with kind d.home))
      ∙ ap (λ k. reverse (runs_with k ((kind, runs + 1) ∷ d.home))) here
  home_case j false is =
      home_other kind j (home_of kind core.st.home ++ (runs + 1) ∷ []) core.st.home (eqb-false kind j is) ∙ core.parts.works.home_is j
      ∙ ap reverse (sym (runs_other j kind (runs + 1) d.home is))

  pub flies_out : own_run t.session d.out ≡ Some run
  flies_out = ap (own_run t.session) (sym core.parts.works.out_is) ∙ landing.flies

  pub works_now : AreWorks o new ((kind, runs + 1) ∷ d.home) (without_own t.session d.out) (length h + 1)
  works_now =
      let few : runs < length h = found_all (λ (r : Run). r.runs < length h) (λ r. r.session == t.session) d.out run core.parts.works.few_out flies_out in
      record {
        listed = home_names kind (home_of kind core.st.home ++ (runs + 1) ∷ []) core.st.home ∙ core.parts.works.listed;
        home_is = λ j. home_case j (kind == j) refl;
        out_is = ap (without_own t.session) core.parts.works.out_is;
        few_home = All-cons (λ (w : ℕ × ℕ). w.1 ≤ length h + 1) (kind, runs + 1) d.home (omega (arith, few))
            (All-weaker (λ (w : ℕ × ℕ). w.1 ≤ length h) (λ (w : ℕ × ℕ). w.1 ≤ length h + 1) (λ w le. omega (arith, le)) d.home core.parts.works.few_home);
        few_out = all_without (λ (r : Run). r.runs < length h + 1) t.session d.out (All-weaker (λ (r : Run). r.runs < length h) (λ (r : Run). r.runs < length h + 1) (λ r le. omega (arith, le)) d.out core.parts.works.few_out);
      }

  -- the seats
  pub gone : own_run t.session new.out ≡ None
  gone = own_gone t.session core.st.out core.parts.tidy.once

  fewer : (kinds : List ℕ) → kinds ≡ ask.kinds ++ kind ∷ [] → count_lacks kinds order + 1 ≤ lacking o ask
  fewer kinds is = lacks_one ask.kinds kinds order kind (λ k had. ap (has_kind k) is ∙ with_kind ask.kinds kind k had) out_is.listed out_is.lacks (ap (has_kind kind) is ∙ has_last ask.kinds kind)

  names_case : (some current' : Bool) → names_needed o (ask_after (end_for some current') kind ask) ≤ length (seat_at t.session d.seats).names
  names_case false c = omega (arith, out_is.room, fewer (ask.kinds ++ kind ∷ []) refl)
  names_case true true =
      let needed = if_false ask.memory 1 (2 * count_lacks (ask.kinds ++ kind ∷ []) order + 1) out_is.quiet in
      omega (arith, needed, out_is.room, fewer (ask.kinds ++ kind ∷ []) refl)
  names_case true false =
      let needed = if_false ask.memory 1 (2 * count_lacks (ask.kinds ++ kind ∷ []) order + 1) out_is.quiet in
      omega (arith, needed, out_is.room, fewer (ask.kinds ++ kind ∷ []) refl)

  seat_now : IsSeated o new t.session new_ask (seat_at t.session d.seats)
  seat_now =
      record {
        keys = asked.seated.keys ∙ ap (λ n. keys_at o core.st n order) (sym later.at);
        names = subst (λ n. All (λ m. m ≡ n) (seat_at t.session d.seats).names) (sym later.name) asked.seated.names;
        pinned = subst (λ n. n ≤ count_of core.st) (sym later.at) asked.seated.pinned;
        run = subst (λ r. RunIs o new new_ask (seat_at t.session d.seats) r) (sym gone) (names_case (is_some gave) current);
      }

  pub seats_case : (s : ℕ) → is_session o s ≡ true → (same : Bool) → (s == t.session) ≡ same → SeatIs o new s (ask_at s new.asks) (seat_at s d.seats)
  seats_case s is true same =
      let at : s ≡ t.session = eqb-true s t.session same in
      let S : ℕ → Type 0 = λ x. SeatIs o new x (ask_at x new.asks) (seat_at x d.seats) in
      let A : Option Ask → Type 0 = λ a. SeatIs o new t.session a (seat_at t.session d.seats) in
      subst S (sym at) (subst A (sym asked_now) seat_now)
  seats_case s is false apart = seat_later o t.session s core.st new (seat_at s d.seats) leaves (eqb-false s t.session apart) (core.parts.seated.each s is)
