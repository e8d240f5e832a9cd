-- What a finish leaves of the store.
use Rattle.std.proofs.Common.{◌≡◌, ◌≢◌, ℕ, suc, ◌+◌, ◌*◌, ◌<◌, ◌≤◌, ◌&&◌, ◌||◌, ◌==◌, ◌⊎◌, Bool, true, false, not, cond, inl, inr, ⊎_elim, List, [], ◌∷◌, ◌++◌, length, map, Option, None, Some, IfSome, IsSome, is_some, refl, sym, ap, ap₂, subst, ◌∙◌, arith, length-append, if◌then◌else◌}
use Rattle.std.specs.Global.{Global}
use Rattle.std.specs.List.{All, find, list_any}
use Rattle.std.specs.Option.{option_and_then}
use Rattle.std.specs.declared.sync.Arc.{Arc}
use Rattle.std.proofs.lemmas.Bool.{eq-eqb, eqb-true, eqb-false, false≢true}
use Rattle.std.proofs.lemmas.List.{append-nil}
use Rattle.std.proofs.lemmas.List.Elements.{All-append, All-cons, All-head, All-nil, All-tail, All-weaker}
use Rattle.std.proofs.lemmas.List.Folds.{list_any-append}
use Rattle.std.proofs.lemmas.Option.{none-some, same_Some}
use Rattle.wc_base.proofs.TestLemmas.{if_true, if_false}
use Rattle.wc_model.specs.declared.entries.End.{End}
use Rattle.wc_model.specs.declared.entries.End.TheVariants.{Kept, Dropped, Memory}
use Rattle.wc_model.specs.declared.entries.Entry.{Entry}
use Rattle.wc_model.specs.Workspace.Closures.{has_kind, order_of}
use Rattle.wc_model.specs.Workspace.History.{Chain, after_finish, ask_after, key_with, rows_after}
use Rattle.wc_model.specs.Workspace.States.{Opening, Key, State, Row, Run, Ask, ask_at, count_of, has_key, home_of, in_store, is_session, own_run, same_key, same_name, stamp_at, stored}
use Rattle.wc_model.proofs.Sharing.{LeavesOthers, asked_other, asked_same, in_other, length-with_ask}
use Rattle.wc_model.proofs.StepLemmas.{some_same}
use Rattle.wc_core.specs.Features.{arc_at}
use Rattle.wc_core.specs.Fits.{Feature, run_of}
use Rattle.wc_core.specs.Inner.Ends.{end_for}
use Rattle.wc_core.specs.Inner.Gifts.{IsGift, KnownGift, gift_value}
use Rattle.wc_core.specs.Inner.Lines.{AreApart, HasPlace, Line, copy_for, kept, names, row_of}
use Rattle.wc_core.specs.Inner.Moves.{CanSettle, Lines, settled_lines}
use Rattle.wc_core.specs.Inner.Seats.{KnownSeat, all_names, seat_at}
use Rattle.wc_core.specs.Inner.Shelves.{KnownShelf, copy_of}
use Rattle.wc_core.specs.Inner.Stocks.{AreLines, AreParts, AreWorks, AreSingle, HasKey, IsCore, IsOut, IsRightFor, IsSeated, IsTidy, RunIs, SeatIs, Stock, keys_at, lacking, names_needed}
use Rattle.wc_core.specs.Inner.Works.{runs_with}
use Rattle.wc_core.specs.Views.{KnownTicket, ask_with}
use Rattle.wc_core.proofs.AskLemmas.{IsAsked}
use Rattle.wc_core.proofs.CopyLemmas.{same_name_refl}
use Rattle.wc_core.proofs.CoreLemmas.{ArePinned, has_later, seat_later, session_within}
use Rattle.wc_core.proofs.DepartLemmas.{some_at}
use Rattle.wc_core.proofs.FeatureLemmas.{IsStable, right_from}
use Rattle.wc_core.proofs.FindLemmas.{found_all, then_some}
use Rattle.wc_core.proofs.KeptLemmas.{kept_apart, kept_found, kept_rows, kept_shapes}
use Rattle.wc_core.proofs.PullLemmas.{Shaped}
use Rattle.wc_core.proofs.LineLemmas.{equal_turned, name_is}
use Rattle.wc_core.proofs.RowLemmas.{fewer_keys, no_kind, row_stored, single_stored}
use Rattle.wc_core.proofs.SeatLemmas.{count_lacks, lacks_one}
use Rattle.wc_core.proofs.ShelfLemmas.{copy_is, find_shelf, keyed, stored_is}
use Rattle.wc_core.proofs.StepLemmas.{same_key_refl}
use Rattle.wc_core.proofs.WorkLemmas.{once_without}
use Rattle.wc_core.proofs.FinishLemmas as finish

length-keys : {C : Type 0} (ss : List (KnownShelf C)) → length (map keyed ss) ≡ length ss
length-keys [] = refl
length-keys (s ∷ ss) = ap (λ n. suc n) (length-keys ss)

module _ {V : Type 0} (chain : Chain) (feature : Feature V) (o : Opening) (h : List Entry) (d : Stock V) (core : IsCore chain feature o h d) (t : KnownTicket V) (kind stamp runs owed room spare : ℕ) (gave : Option (KnownGift V)) (current : Bool)
    (landing : finish.IsLanding feature o core.st d t kind stamp runs gave current) (stable : IsStable feature o) (pinned : ArePinned o core.st) where
  abbrev asked : IsAsked feature o core.st d t
  asked = landing.asked

  abbrev ask : Ask
  ask = ask_with t asked.is_open.kinds

  abbrev run : Run
  run = run_of t kind stamp runs

  abbrev end_now : End
  end_now = end_for (is_some gave) current

  abbrev new : State
  new = after_finish core.st t.session run.key end_now ask run

  abbrev new_ask : Ask
  new_ask = ask_after end_now kind ask

  leaves : LeavesOthers t.session core.st new
  leaves = finish.leaves chain feature o h d core t kind stamp runs owed room spare gave current landing stable pinned

  asked_now : ask_at t.session new.asks ≡ Some new_ask
  asked_now = finish.asked_now chain feature o h d core t kind stamp runs owed room spare gave current landing stable pinned

  out_is : IsOut o core.st ask (seat_at t.session d.seats) run
  out_is = finish.out_is chain feature o h d core t kind stamp runs owed room spare gave current landing stable pinned

  is_current : current ≡ (stamp == stamp_at o core.st kind (count_of core.st))
  is_current = finish.is_current chain feature o h d core t kind stamp runs owed room spare gave current landing stable pinned

  later : finish.IsLater kind ask new_ask
  later = finish.later chain feature o h d core t kind stamp runs owed room spare gave current landing stable pinned

  has_now : (n : List ℕ) (k s y : ℕ) → is_session o y ≡ true → HasKey o core.st n k s y → HasKey o new n k s y
  has_now = finish.has_now chain feature o h d core t kind stamp runs owed room spare gave current landing stable pinned

  none_kept : current ≡ true → (s : ℕ) → in_store (key_with kind t.name s) core.st.rows ≡ false
  none_kept = finish.none_kept chain feature o h d core t kind stamp runs owed room spare gave current landing stable pinned

  gone : own_run t.session new.out ≡ None
  gone = finish.gone chain feature o h d core t kind stamp runs owed room spare gave current landing stable pinned

  -- The other runs that are out.
  was_case : (y : ℕ) (r : Run) (same : Bool) → (y == t.session) ≡ same → own_run y new.out ≡ Some r → (y ≢ t.session) × (own_run y core.st.out ≡ Some r)
  was_case y r true is at = absurd (none-some r (sym gone ∙ ap (λ x. own_run x new.out) (sym (eqb-true y t.session is)) ∙ at))
  was_case y r false is at = let other = eqb-false y t.session is in (other, sym (leaves.runs y other) ∙ at)

  run_was : (y : ℕ) (r : Run) → own_run y new.out ≡ Some r → (y ≢ t.session) × (own_run y core.st.out ≡ Some r)
  run_was y r at = was_case y r (y == t.session) refl at

  -- The store, where nothing is kept.
  lines_same : new.rows ≡ core.st.rows → AreLines feature o new d.lines
  lines_same rows =
      record {
        rows = rows ∙ core.parts.lines.rows;
        apart = core.parts.lines.apart;
        shaped = core.parts.lines.shaped;
        copied = λ n k s y is stored. ⊎_elim (λ (found : IsSome (copy_for n k s y d.lines)). inl found) (λ (has : HasKey o core.st n k s y). inr (has_now n k s y is has)) (core.parts.lines.copied n k s y is stored);
        right = core.parts.lines.right;
      }

  tidy_same : new.rows ≡ core.st.rows → IsTidy o new
  tidy_same rows =
      record {
        current = λ n k s is. core.parts.tidy.current n k s (sym (ap (in_store (key_with k n s)) rows) ∙ is);
        listed = λ n k s is. core.parts.tidy.listed n k s (sym (ap (in_store (key_with k n s)) rows) ∙ is);
        single = subst (λ rs. All (λ (r : Row). AreSingle r.keys) rs) (sym rows) core.parts.tidy.single;
        once = once_without t.session core.st.out core.parts.tidy.once;
        fresh = λ y r at. ap (in_store r.key) rows ∙ core.parts.tidy.fresh y r (run_was y r at).1;
        alone = λ x y r s apart at_x at_y. core.parts.tidy.alone x y r s apart (run_was x r at_x).1 (run_was y s at_y).1;
      }

  -- The store, where the value is kept.
  abbrev shelf_of : KnownGift V → KnownShelf (Arc V Global)
  shelf_of g = record { kind = kind; stamp = stamp; copies = g.copies }

  abbrev with_gift : KnownGift V → Lines V
  with_gift g = kept g.name g.row (shelf_of g) d.lines

  abbrev IsOldOrNew : KnownGift V → List ℕ → ℕ → ℕ → KnownShelf (Arc V Global) → Type 0
  IsOldOrNew g n k s f = (find_shelf n k s d.lines ≡ Some f) ⊎ ((n ≡ g.name) × (k ≡ kind) × (s ≡ stamp) × (shelf_of g ≡ f))

  gift_found : (g : KnownGift V) → IsGift o.sessions t.session t.name g → (n : List ℕ) (k s : ℕ) (f : KnownShelf (Arc V Global)) → find_shelf n k s (with_gift g) ≡ Some f → IsOldOrNew g n k s f
  gift_found g fits n k s f is = kept_found g.name g.row (shelf_of g) n k s f d.lines fits.empty core.parts.lines.apart is

  gift_apart : (g : KnownGift V) → AreApart (names (with_gift g))
  gift_apart g = kept_apart g.name g.row (shelf_of g) d.lines core.parts.lines.apart

  stored_found : (g : KnownGift V) → IsGift o.sessions t.session t.name g → (n : List ℕ) (k s : ℕ) → in_store (key_with k n s) (map row_of (with_gift g)) ≡ true → (f : KnownShelf (Arc V Global)) × (find_shelf n k s (with_gift g) ≡ Some f) × IsOldOrNew g n k s f
  stored_found g fits n k s is =
      let f = some_at (find_shelf n k s (with_gift g)) (sym (stored_is n k s (with_gift g) (gift_apart g)) ∙ is) in
      (f.0, f.1, gift_found g fits n k s f.0 f.1)

  was_stored : (n : List ℕ) (k s : ℕ) (f : KnownShelf (Arc V Global)) → find_shelf n k s d.lines ≡ Some f → in_store (key_with k n s) (map row_of d.lines) ≡ true
  was_stored n k s f is = stored_is n k s d.lines core.parts.lines.apart ∙ ap is_some is

  kept_copied : (g : KnownGift V) → IsGift o.sessions t.session t.name g → end_now ≡ Kept → (n : List ℕ) (k s y : ℕ) → is_session o y ≡ true → in_store (key_with k n s) (map row_of (with_gift g)) ≡ true → IsSome (copy_for n k s y (with_gift g)) ⊎ HasKey o new n k s y
  kept_copied g fits ends n k s y is stored =
      let at = stored_found g fits n k s stored in
      let copy = copy_is n k s y (with_gift g) ∙ ap (option_and_then (copy_of y)) at.1 in
      ⊎_elim
      (λ (old : find_shelf n k s d.lines ≡ Some at.0).
      let before = copy_is n k s y d.lines ∙ ap (option_and_then (copy_of y)) old in
      ⊎_elim (λ (found : IsSome (copy_for n k s y d.lines)). inl (subst (λ c. IsSome c) (before ∙ sym copy) found)) (λ (has : HasKey o core.st n k s y). inr (has_now n k s y is has))
      (core.parts.lines.copied n k s y is (was_stored n k s at.0 old)))
      (λ (new_ : (n ≡ g.name) × (k ≡ kind) × (s ≡ stamp) × (shelf_of g ≡ at.0)). by new_ copy (y == t.session) refl)
      at.2 where
        by : {f : KnownShelf (Arc V Global)} → (n ≡ g.name) × (k ≡ kind) × (s ≡ stamp) × (shelf_of g ≡ f) → copy_for n k s y (with_gift g) ≡ copy_of y f → (same : Bool) → (y == t.session) ≡ same → IsSome (copy_for n k s y (with_gift g)) ⊎ HasKey o new n k s y
        by this copy false apart =
            let within = session_within o y is in
            inl (subst (λ c. IsSome c) (ap (copy_of y) this.3 ∙ sym copy) (fits.copies.full y within.0 (omega (arith, within.1)) (eqb-false y t.session apart)))
        by this copy true same =
            inr (record {
              ask = new_ask;
              asked = ap (λ x. ask_at x new.asks) (eqb-true y t.session same) ∙ asked_now;
              name_is = later.name ∙ sym fits.name_is ∙ sym this.0;
              has = ap (λ e. has_kind k (ask_after e kind ask).kinds) ends ∙ ap (λ j. has_kind j (ask.kinds ++ kind ∷ [])) this.1 ∙ finish.has_last ask.kinds kind;
              own = ap (stamp_at o core.st k) later.at ∙ ap (λ j. stamp_at o core.st j t.at) this.1 ∙ sym out_is.own ∙ sym this.2;
            })

  kept_right : (g : KnownGift V) → IsGift o.sessions t.session t.name g → feature kind t.inputs t.name g.own.value → (n : List ℕ) (k s y : ℕ) (a : Arc V Global) → copy_for n k s y (with_gift g) ≡ Some a → IsRightFor feature o core.st n k s a.value
  kept_right g fits is n k s y a found =
      let at = then_some (copy_of y) (find_shelf n k s (with_gift g)) a (sym (copy_is n k s y (with_gift g)) ∙ found) in
      ⊎_elim
      (λ (old : find_shelf n k s d.lines ≡ Some at.0). core.parts.lines.right n k s y a (copy_is n k s y d.lines ∙ ap (option_and_then (copy_of y)) old ∙ at.2))
      (λ (new_ : (n ≡ g.name) × (k ≡ kind) × (s ≡ stamp) × (shelf_of g ≡ at.0)).
      let same : a.value ≡ g.own.value = fits.copies.same y a (ap (copy_of y) new_.3 ∙ at.2) in
      let here = right_from feature o core.st kind t.name g.own.value stable t.at stamp asked.seated.pinned (sym out_is.own) (subst (λ i. feature kind i t.name g.own.value) asked.is_open.inputs is) in
      let N : List ℕ → Type 0 = λ m. IsRightFor feature o core.st m k s a.value in
      let K : ℕ → Type 0 = λ j. IsRightFor feature o core.st t.name j s a.value in
      let S : ℕ → Type 0 = λ j. IsRightFor feature o core.st t.name kind j a.value in
      let A : V → Type 0 = λ v. IsRightFor feature o core.st t.name kind stamp v in
      subst N (sym (new_.0 ∙ fits.name_is)) (subst K (sym new_.1) (subst S (sym new_.2) (subst A (sym same) here))))
      (gift_found g fits n k s at.0 at.1)

  gift_shaped : (g : KnownGift V) → IsGift o.sessions t.session t.name g → All (Shaped 11 (o.sessions + 1)) (with_gift g)
  gift_shaped g fits = kept_shapes g.name g.row (shelf_of g) 11 (o.sessions + 1) d.lines fits.copies.wide fits.room fits.empty core.parts.lines.shaped

  lines_kept : (g : KnownGift V) → IsGift o.sessions t.session t.name g → feature kind t.inputs t.name g.own.value → end_now ≡ Kept → new.rows ≡ stored run.key core.st.rows → AreLines feature o new (with_gift g)
  lines_kept g fits is ends rows =
      record {
        rows = rows ∙ ap₂ (λ n rs. stored (key_with kind n stamp) rs) (sym fits.name_is) core.parts.lines.rows ∙ sym (kept_rows g.name g.row (shelf_of g) d.lines fits.empty);
        apart = gift_apart g;
        shaped = gift_shaped g fits;
        copied = kept_copied g fits ends;
        right = kept_right g fits is;
      }

  -- what is stored then was stored, or is the new key
  stored_or : (g : KnownGift V) → IsGift o.sessions t.session t.name g → new.rows ≡ map row_of (with_gift g) → (n : List ℕ) (k s : ℕ) → in_store (key_with k n s) new.rows ≡ true → (in_store (key_with k n s) core.st.rows ≡ true) ⊎ ((n ≡ t.name) × (k ≡ kind) × (s ≡ stamp))
  stored_or g fits rows n k s is =
      let at = stored_found g fits n k s (sym (ap (in_store (key_with k n s)) rows) ∙ is) in
      ⊎_elim (λ (old : find_shelf n k s d.lines ≡ Some at.0). inl (ap (in_store (key_with k n s)) core.parts.lines.rows ∙ was_stored n k s at.0 old))
      (λ (new_ : (n ≡ g.name) × (k ≡ kind) × (s ≡ stamp) × (shelf_of g ≡ at.0)). inr (new_.0 ∙ fits.name_is, new_.1, new_.2)) at.2

  fresh_case : (g : KnownGift V) → IsGift o.sessions t.session t.name g → new.rows ≡ map row_of (with_gift g) → (y : ℕ) (r : Run) → own_run y new.out ≡ Some r → (is : Bool) → in_store r.key new.rows ≡ is → is ≡ false
  fresh_case g fits rows y r at false is = refl
  fresh_case g fits rows y r at true is =
      let was = run_was y r at in
      absurd (⊎_elim (λ (old : in_store r.key core.st.rows ≡ true). false≢true (sym (core.parts.tidy.fresh y r was.1) ∙ old))
      (λ (this : (r.key.name ≡ t.name) × (r.key.kind ≡ kind) × (r.key.stamp ≡ stamp)).
      false≢true (sym (core.parts.tidy.alone y t.session r run was.0 was.1 landing.flies)
      ∙ ap₂ (λ x z. x && z) (ap₂ (λ x z. x && z) (eq-eqb r.key.kind kind this.1) (ap (λ m. same_name m t.name) this.0 ∙ same_name_refl t.name)) (eq-eqb r.key.stamp stamp this.2)))
      (stored_or g fits rows r.key.name r.key.kind r.key.stamp is))

  tidy_kept : (g : KnownGift V) → IsGift o.sessions t.session t.name g → current ≡ true → new.rows ≡ stored run.key core.st.rows → new.rows ≡ map row_of (with_gift g) → IsTidy o new
  tidy_kept g fits now rows rows_are =
      record {
        current = λ n k s is. ⊎_elim (λ (old : in_store (key_with k n s) core.st.rows ≡ true). core.parts.tidy.current n k s old)
            (λ (this : (n ≡ t.name) × (k ≡ kind) × (s ≡ stamp)). this.2 ∙ eqb-true stamp (stamp_at o core.st kind (count_of core.st)) (sym is_current ∙ now) ∙ ap (λ j. stamp_at o core.st j (count_of core.st)) (sym this.1))
            (stored_or g fits rows_are n k s is);
        listed = λ n k s is. ⊎_elim (λ (old : in_store (key_with k n s) core.st.rows ≡ true). core.parts.tidy.listed n k s old)
            (λ (this : (n ≡ t.name) × (k ≡ kind) × (s ≡ stamp)). ap (λ j. has_kind j (order_of o.kinds)) this.1 ∙ out_is.listed)
            (stored_or g fits rows_are n k s is);
        single = subst (λ rs. All (λ (r : Row). AreSingle r.keys) rs) (sym rows) (single_stored run.key core.st.rows core.parts.tidy.single (none_kept now));
        once = once_without t.session core.st.out core.parts.tidy.once;
        fresh = λ y r at. fresh_case g fits rows_are y r at (in_store r.key new.rows) refl;
        alone = λ x y r s apart at_x at_y. core.parts.tidy.alone x y r s apart (run_was x r at_x).1 (run_was y s at_y).1;
      }

  -- The row of the name has room.
  place_all : (g : KnownGift V) → IsGift o.sessions t.session t.name g → current ≡ true → (rows : List Row) → All (λ (r : Row). AreSingle r.keys) rows → All (λ (r : Row). same_name r.name t.name ≡ true → list_any (λ j. j.0 == kind) r.keys ≡ false) rows
      → All (λ (r : Row). (k s : ℕ) → has_key k s r.keys ≡ true → has_kind k (order_of o.kinds) ≡ true) rows → (ls : List (Line (Arc V Global))) → rows ≡ map row_of ls → All (Shaped 11 (o.sessions + 1)) ls → HasPlace g.name ls
  place_all g fits now rows single none listed [] are shaped = All-nil (λ (l : Line (Arc V Global)). l.name ≡ g.name → length l.row.shelves < l.row.room)
  place_all g fits now [] single none listed (l ∷ ls) are shaped = cc
  place_all g fits now (r ∷ rs) single none listed (l ∷ ls) are shaped =
      let first : r ≡ row_of l = (let both = are in cc) in
      let rest : rs ≡ map row_of ls = (let both = are in cc) in
      All-cons (λ (x : Line (Arc V Global)). x.name ≡ g.name → length x.row.shelves < x.row.room) l ls
      (λ named.
      let S : Row → Type 0 = λ x. AreSingle x.keys in
      let N : Row → Type 0 = λ x. same_name x.name t.name ≡ true → list_any (λ j. j.0 == kind) x.keys ≡ false in
      let L : Row → Type 0 = λ x. (k s : ℕ) → has_key k s x.keys ≡ true → has_kind k (order_of o.kinds) ≡ true in
      let keys = fewer_keys (row_of l).keys kind (order_of o.kinds) (subst S first (All-head S r rs single)) (subst N first (All-head N r rs none) (ap (λ m. same_name m t.name) (named ∙ fits.name_is) ∙ same_name_refl t.name)) out_is.listed (subst L first (All-head L r rs listed)) in
      omega (arith, keys, core.runs.few, length-keys l.row.shelves, (All-head (Shaped 11 (o.sessions + 1)) l ls shaped).0))
      (place_all g fits now rs (All-tail (λ (x : Row). AreSingle x.keys) r rs single) (All-tail (λ (x : Row). same_name x.name t.name ≡ true → list_any (λ j. j.0 == kind) x.keys ≡ false) r rs none) (All-tail (λ (x : Row). (k s : ℕ) → has_key k s x.keys ≡ true → has_kind k (order_of o.kinds) ≡ true) r rs listed) ls rest (All-tail (Shaped 11 (o.sessions + 1)) l ls shaped))

  has_place : (g : KnownGift V) → IsGift o.sessions t.session t.name g → current ≡ true → HasPlace g.name d.lines
  has_place g fits now =
      place_all g fits now core.st.rows core.parts.tidy.single (no_kind kind t.name core.st.rows (none_kept now))
      (All-weaker (λ (r : Row). (k s : ℕ) → has_key k s r.keys ≡ true → in_store (key_with k r.name s) core.st.rows ≡ true) (λ (r : Row). (k s : ℕ) → has_key k s r.keys ≡ true → has_kind k (order_of o.kinds) ≡ true)
      (λ r all k s is. core.parts.tidy.listed r.name k s (all k s is)) core.st.rows (row_stored core.st.rows))
      d.lines core.parts.lines.rows core.parts.lines.shaped

  -- Whatever the end: the store, and what is tidy.
  abbrev lines_now : Lines V
  lines_now = settled_lines kind stamp current gave d.lines

  settle_case : (some : Option (KnownGift V)) (now : Bool) → gave ≡ some → current ≡ now → AreLines feature o new (settled_lines kind stamp now some d.lines) × IsTidy o new
  settle_case None true gave_is now = let rows = ap₂ (λ g c. rows_after (end_for (is_some g) c) run.key core.st.rows) gave_is now in (lines_same rows, tidy_same rows)
  settle_case None false gave_is now = let rows = ap₂ (λ g c. rows_after (end_for (is_some g) c) run.key core.st.rows) gave_is now in (lines_same rows, tidy_same rows)
  settle_case (Some g) false gave_is now = let rows = ap₂ (λ x c. rows_after (end_for (is_some x) c) run.key core.st.rows) gave_is now in (lines_same rows, tidy_same rows)
  settle_case (Some g) true gave_is now =
      let rows = ap₂ (λ x c. rows_after (end_for (is_some x) c) run.key core.st.rows) gave_is now in
      let ends : end_now ≡ Kept = ap₂ (λ x c. end_for (is_some x) c) gave_is now in
      let fits : IsGift o.sessions t.session t.name g = subst (λ x. IfSome x (IsGift o.sessions t.session t.name)) gave_is landing.gift in
      let is : feature kind t.inputs t.name g.own.value = subst (λ x. IfSome x (λ y. feature kind t.inputs t.name y.own.value)) gave_is landing.value in
      let lines = lines_kept g fits is ends rows in
      (lines, tidy_kept g fits now rows lines.rows)

  pub settled_is : AreLines feature o new lines_now × IsTidy o new
  settled_is = settle_case gave current refl refl

  place_case : (some : Option (KnownGift V)) (now : Bool) → gave ≡ some → current ≡ now → 0 < d.spare → CanSettle d.spare now some d.lines
  place_case None true gave_is now room_ = tt
  place_case None false gave_is now room_ = tt
  place_case (Some g) false gave_is now room_ = tt
  place_case (Some g) true gave_is now room_ =
      let fits : IsGift o.sessions t.session t.name g = subst (λ x. IfSome x (IsGift o.sessions t.session t.name)) gave_is landing.gift in
      (has_place g fits now, omega (arith, ap length fits.empty, fits.room), room_)

  pub can_settle : 0 < d.spare → CanSettle d.spare current gave d.lines
  can_settle room_ = place_case gave current refl refl room_
