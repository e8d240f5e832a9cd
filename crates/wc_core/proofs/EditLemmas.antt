-- An edit: what it touches leaves the store, and the stamps of the touched kinds are new.
use Rattle.std.proofs.Common.{◌≡◌, ◌≢◌, ℕ, zero, suc, ◌+◌, ◌<◌, ◌≤◌, ◌&&◌, ◌||◌, ◌==◌, ◌⊎◌, Bool, true, false, not, cond, inl, inr, ⊎_elim, List, [], ◌∷◌, ◌++◌, take, length, map, Option, None, Some, IsSome, is_some, refl, sym, ap, ap₂, subst, ◌∙◌, arith, length-append, if◌then◌else◌}
use Rattle.std.specs.Global.{Global}
use Rattle.std.specs.List.{All, filter, find, list_any}
use Rattle.std.specs.Option.{option_and_then}
use Rattle.std.specs.declared.sync.Arc.{Arc}
use Rattle.std.proofs.lemmas.Bool.{false≢true}
use Rattle.std.proofs.lemmas.List.{take-append-le}
use Rattle.std.proofs.lemmas.List.Elements.{All-cons, All-head, All-nil, All-tail}
use Rattle.std.proofs.lemmas.Option.{none-some}
use Rattle.std.proofs.Math.Seq.{take-length}
use Rattle.wc_model.specs.declared.elf_image.Image.{Image}
use Rattle.wc_model.specs.declared.entries.Entry.{Entry}
use Rattle.wc_model.specs.declared.entries.Entry.TheVariants.{Edit as EditEntry}
use Rattle.wc_model.specs.declared.inputs.Edit.{Edit}
use Rattle.wc_model.specs.Workspace.Closures.{closure, has_kind, last_touch, order_of, touches_any}
use Rattle.wc_model.specs.Workspace.Edits.{Setting, all_edited, bare, edited}
use Rattle.wc_model.specs.Workspace.History.{Chain, after_edit, can_edit, key_with}
use Rattle.wc_model.specs.Workspace.States.{Opening, State, Row, Run, Ask, ask_at, count_of, in_store, inputs_at, is_session, is_touched, own_run, stamp_at, untouched_keys}
use Rattle.wc_model.proofs.Replays.{all_edited-append, last_touch-append}
use Rattle.wc_model.proofs.Sharing.{LeavesOthers, inputs_stay, stamp_stays}
use Rattle.wc_core.specs.Answers.{LeavesFree, inputs_now}
use Rattle.wc_core.specs.Fits.{Feature}
use Rattle.wc_core.specs.Inner.Lines.{AreApart, copy_for, names, row_of}
use Rattle.wc_core.specs.Inner.Seats.{seat_at}
use Rattle.wc_core.specs.Inner.Moves.{Lines}
use Rattle.wc_core.specs.Inner.Shelves.{KnownShelf, copy_of}
use Rattle.wc_core.specs.Inner.Stocks.{AreInputs, AreLines, AreParts, AreSingle, HasKey, IsCore, IsRightFor, IsTidy, Stock, keys_at}
use Rattle.wc_core.specs.Inner.Touching.{lines_cut, stamped}
use Rattle.wc_core.specs.Views.{Known}
use Rattle.wc_core.proofs.CoreLemmas.{ArePinned, core_free, core_inputs, core_pinned, has_later, known, moved, seat_later, session_within, works_later}
use Rattle.wc_core.proofs.CutLemmas.{cut_found, cut_names, cut_rows, cut_shapes}
use Rattle.wc_core.proofs.DepartLemmas.{some_at}
use Rattle.wc_core.proofs.FeatureLemmas.{IsStable, right_from}
use Rattle.wc_core.proofs.FindLemmas.{then_some}
use Rattle.wc_core.proofs.QuietLemmas.{Goes}
use Rattle.wc_core.proofs.RowLemmas.{cut_single}
use Rattle.wc_core.proofs.ShelfLemmas.{copy_is, find_shelf, stored_is}
use Rattle.wc_core.proofs.StepLemmas.{step_edit}

unless_some : {A : Type 0} (b : Bool) (o : Option A) (a : A) → (if b then None else o) ≡ Some a → (b ≡ false) × (o ≡ Some a)
unless_some true o a is = absurd (none-some a is)
unless_some false o a is = (refl, is)

module _ {V : Type 0} (chain : Chain) (feature : Feature V) (o : Opening) (h : List Entry) (d : Stock V) (core : IsCore chain feature o h d) (e : Edit) (room : ℕ) (stable : IsStable feature o) (pinned : ArePinned o core.st) where
  abbrev pub new : State
  new = after_edit o core.st e

  abbrev count : ℕ
  count = count_of core.st

  abbrev pub touched : ℕ → Bool
  touched k = is_touched o core.st e k

  abbrev pub edited_stock : Stock V
  edited_stock = record d { inputs = edited (d.count + 1) d.inputs e; count = d.count + 1; keys = map (stamped touched (d.count + 1)) d.keys; lines = lines_cut touched d.lines; room = room }

  grows : count_of new ≡ count + 1
  grows = length-append core.st.edits (e ∷ [])

  leaves : (session : ℕ) → LeavesOthers session core.st new
  leaves session = record { asks = λ s other. refl; runs = λ s other. refl; more = e ∷ []; edits = refl }

  inputs_grow : edited (d.count + 1) d.inputs e ≡ inputs_at o new (count_of new)
  inputs_grow =
      let next : d.count + 1 ≡ 0 + length core.st.edits + 1 = omega (arith, core.parts.inputs.count) in
      ap₂ (λ n i. edited n i e) next (core.parts.inputs.inputs ∙ ap (λ es. all_edited 0 (bare o.image) es) (take-length core.st.edits))
      ∙ sym (all_edited-append 0 (bare o.image) core.st.edits (e ∷ []))
      ∙ ap (λ es. all_edited 0 (bare o.image) es) (sym (take-length (core.st.edits ++ e ∷ [])))

  stamp_grows : (k : ℕ) → (if touched k then count + 1 else stamp_at o core.st k count) ≡ stamp_at o new k (count_of new)
  stamp_grows k =
      let parts = closure o.kinds k in
      let next : count + 1 ≡ 0 + length core.st.edits + 1 = omega arith in
      ap₂ (λ i n. if touches_any parts (all_edited 0 (bare o.image) i) e then n else stamp_at o core.st k count) (take-length core.st.edits) next
      ∙ ap (λ es. if touches_any parts (all_edited 0 (bare o.image) core.st.edits) e then 0 + length core.st.edits + 1 else last_touch parts 0 0 (bare o.image) es) (take-length core.st.edits)
      ∙ sym (last_touch-append parts 0 0 (bare o.image) core.st.edits (e ∷ []))
      ∙ ap (λ es. last_touch parts 0 0 (bare o.image) es) (sym (take-length (core.st.edits ++ e ∷ [])))

  stamped_case : (k n m : ℕ) (here : Bool) → touched k ≡ here → n ≡ m → stamped touched n (k, stamp_at o core.st k count) ≡ (k, if here then m else stamp_at o core.st k count)
  stamped_case k n m true is same = ap₂ (λ b x. if b then (k, x) else (k, stamp_at o core.st k count)) is same
  stamped_case k n m false is same = ap (λ b. if b then (k, n) else (k, stamp_at o core.st k count)) is

  keys_grow : (ks : List ℕ) → map (stamped touched (d.count + 1)) (keys_at o core.st count ks) ≡ keys_at o new (count_of new) ks
  keys_grow [] = refl
  keys_grow (k ∷ ks) =
      let next : d.count + 1 ≡ count + 1 = omega (arith, core.parts.inputs.count) in
      let here : stamped touched (d.count + 1) (k, stamp_at o core.st k count) ≡ (k, stamp_at o new k (count_of new)) = stamped_case k (d.count + 1) (count + 1) (touched k) refl next ∙ ap (λ s. (k, s)) (stamp_grows k) in
      ap₂ (λ (x : ℕ × ℕ) xs. x ∷ xs) here (keys_grow ks)

  -- the stamp of a kind that isn't touched stays
  stays : (k : ℕ) → touched k ≡ false → stamp_at o core.st k count ≡ stamp_at o new k (count_of new)
  stays k is = sym (ap (λ b. if b then count + 1 else stamp_at o core.st k count) is) ∙ stamp_grows k

  -- what is found then was found, and isn't touched
  was_found : (n : List ℕ) (k s : ℕ) (f : KnownShelf (Arc V Global)) → find_shelf n k s (lines_cut touched d.lines) ≡ Some f → (touched k ≡ false) × (find_shelf n k s d.lines ≡ Some f)
  was_found n k s f is = unless_some (touched k) (find_shelf n k s d.lines) f (sym (cut_found touched n k s d.lines) ∙ is)

  apart_now : AreApart (names (lines_cut touched d.lines))
  apart_now = subst (λ ns. AreApart ns) (sym (cut_names touched d.lines)) core.parts.lines.apart

  was_stored : (n : List ℕ) (k s : ℕ) → in_store (key_with k n s) (map row_of (lines_cut touched d.lines)) ≡ true → (touched k ≡ false) × (in_store (key_with k n s) (map row_of d.lines) ≡ true) × (f : KnownShelf (Arc V Global)) × (find_shelf n k s (lines_cut touched d.lines) ≡ Some f) × (find_shelf n k s d.lines ≡ Some f)
  was_stored n k s is =
      let at = some_at (find_shelf n k s (lines_cut touched d.lines)) (sym (stored_is n k s (lines_cut touched d.lines) apart_now) ∙ is) in
      let was = was_found n k s at.0 at.1 in
      (was.0, stored_is n k s d.lines core.parts.lines.apart ∙ ap is_some was.1, at.0, at.1, was.1)

  rows_now : new.rows ≡ map row_of (lines_cut touched d.lines)
  rows_now = ap (λ rs. map (untouched_keys o core.st e) rs) core.parts.lines.rows ∙ sym (cut_rows touched d.lines)

  before : (n : List ℕ) (k s : ℕ) → in_store (key_with k n s) new.rows ≡ true → (touched k ≡ false) × (in_store (key_with k n s) core.st.rows ≡ true)
  before n k s is =
      let was = was_stored n k s (sym (ap (in_store (key_with k n s)) rows_now) ∙ is) in
      (was.0, ap (in_store (key_with k n s)) core.parts.lines.rows ∙ was.1)

  right_now : (n : List ℕ) (k s y : ℕ) (a : Arc V Global) → copy_for n k s y (lines_cut touched d.lines) ≡ Some a → IsRightFor feature o new n k s a.value
  right_now n k s y a is =
      let at = then_some (copy_of y) (find_shelf n k s (lines_cut touched d.lines)) a (sym (copy_is n k s y (lines_cut touched d.lines)) ∙ is) in
      let was = was_found n k s at.0 at.1 in
      let old = core.parts.lines.right n k s y a (copy_is n k s y d.lines ∙ ap (option_and_then (copy_of y)) was.1 ∙ at.2) in
      let stored : in_store (key_with k n s) core.st.rows ≡ true = ap (in_store (key_with k n s)) core.parts.lines.rows ∙ stored_is n k s d.lines core.parts.lines.apart ∙ ap is_some was.1 in
      let now : s ≡ stamp_at o core.st k count = core.parts.tidy.current n k s stored in
      let within : count ≤ length core.st.edits = omega arith in
      let here : feature k (inputs_at o core.st count) n a.value = old count within (sym now) in
      right_from feature o new k n a.value stable count s (omega (arith, grows)) (stamp_stays o k count core.st.edits (e ∷ []) within ∙ sym now)
      (subst (λ i. feature k i n a.value) (sym (inputs_stay o.image count core.st.edits (e ∷ []) within)) here)

  lines_now : AreLines feature o new (lines_cut touched d.lines)
  lines_now =
      record {
        rows = rows_now;
        apart = apart_now;
        shaped = cut_shapes touched 11 (o.sessions + 1) d.lines core.parts.lines.shaped;
        copied = λ n k s y is stored.
            let was = was_stored n k s stored in
            let copy : copy_for n k s y (lines_cut touched d.lines) ≡ copy_for n k s y d.lines = copy_is n k s y (lines_cut touched d.lines) ∙ ap (option_and_then (copy_of y)) (was.3 ∙ sym was.4) ∙ sym (copy_is n k s y d.lines) in
            ⊎_elim (λ (found : IsSome (copy_for n k s y d.lines)). inl (subst (λ c. IsSome c) (sym copy) found))
            (λ (has : HasKey o core.st n k s y). inr (has_later o 0 core.st new n k s y (leaves 0) pinned is (apart_zero y (session_within o y is).0) has))
            (core.parts.lines.copied n k s y is was.1);
        right = right_now;
      } where
        apart_zero : (y : ℕ) → 1 ≤ y → y ≢ 0
        apart_zero y least same = omega (arith, least, same)

  single_all : (rows : List Row) → All (λ (r : Row). AreSingle r.keys) rows → All (λ (r : Row). AreSingle r.keys) (map (untouched_keys o core.st e) rows)
  single_all [] all = All-nil (λ (r : Row). AreSingle r.keys)
  single_all (r ∷ rs) all = All-cons (λ (x : Row). AreSingle x.keys) (untouched_keys o core.st e r) (map (untouched_keys o core.st e) rs) (cut_single (λ k. not (touched k)) r.keys (All-head (λ (x : Row). AreSingle x.keys) r rs all)) (single_all rs (All-tail (λ (x : Row). AreSingle x.keys) r rs all))

  fresh_case : (r : Run) (is : Bool) → in_store r.key new.rows ≡ is → in_store r.key core.st.rows ≡ false → is ≡ false
  fresh_case r false is none = refl
  fresh_case r true is none = absurd (false≢true (sym none ∙ (before r.key.name r.key.kind r.key.stamp is).1))

  tidy_now : IsTidy o new
  tidy_now =
      record {
        current = λ n k s is. let was = before n k s is in core.parts.tidy.current n k s was.1 ∙ stays k was.0;
        listed = λ n k s is. core.parts.tidy.listed n k s (before n k s is).1;
        single = single_all core.st.rows core.parts.tidy.single;
        once = core.parts.tidy.once;
        fresh = λ y r at. fresh_case r (in_store r.key new.rows) refl (core.parts.tidy.fresh y r at);
        alone = core.parts.tidy.alone;
      }

  pub parts_now : length h + 1 + d.owed ≤ room → AreParts feature o new (length h + 1) edited_stock
  parts_now within =
      let parts = core.parts in
      record {
        inputs = record { inputs = inputs_grow; count = omega (arith, parts.inputs.count, grows); keys = ap (map (stamped touched (d.count + 1))) parts.inputs.keys ∙ keys_grow (order_of o.kinds) };
        lines = lines_now;
        tidy = tidy_now;
        works = works_later o core.st new d.home d.out (length h) refl refl parts.works;
        seated = record { asks = parts.seated.asks; seats = parts.seated.seats; each = λ s is. seat_later o 0 s core.st new (seat_at s d.seats) (leaves 0) (λ (same : s ≡ 0). omega (arith, same, (session_within o s is).0)) (parts.seated.each s is) };
        owes = parts.owes;
        within = within;
        stored = parts.stored;
        counted = omega (arith, parts.counted);
      }

  pub goes_edit : (k : Known) (view : known o h ≡ k) (entries : List Entry) (session : ℕ) → LeavesFree k.opening k.history session → can_edit e (inputs_now k) ≡ true → entries ≡ h ++ EditEntry session (d.count + 1) e ∷ [] → length h + 1 + d.owed ≤ room → Goes chain feature o k entries session edited_stock
  goes_edit k view entries session leaves_free can entries_are within =
      let rest = core_free chain feature o h d k view core session leaves_free in
      let allowed = ap (can_edit e) (sym core.parts.inputs.inputs ∙ core_inputs chain feature o h d k view core) ∙ can in
      let next : d.count + 1 ≡ length core.st.edits + 1 = omega (arith, core.parts.inputs.count) in
      let m = moved chain feature o h d k view core entries (EditEntry session (d.count + 1) e) new edited_stock entries_are (step_edit o core.st session (d.count + 1) e rest.free next allowed) tt refl (leaves session) (parts_now within) in
      record { core = m.core; advances = m.advances; free = record { st = new; state = m.state; free = rest.free } }
