-- What an ask takes out of the store at a start.
use Rattle.std.proofs.Common.{ℕ, ◌≡◌, ◌≢◌, ◌+◌, ◌<◌, ◌≤◌, ◌⊎◌, ◌==◌, ◌&&◌, ◌||◌, Bool, true, false, cond, if◌then◌else◌, inl, inr, ⊎_elim, List, [], ◌∷◌, Option, None, Some, IsSome, is_some, map, length, set, refl, sym, ap, ap₂, subst, ◌∙◌, arith, zero, suc}
use Rattle.std.specs.Global.{Global}
use Rattle.std.specs.List.{All, list_any}
use Rattle.std.specs.Option.{option_and_then}
use Rattle.std.specs.declared.sync.Arc.{Arc}
use Rattle.std.proofs.lemmas.Bool.{eq-eqb, eqb-true, false≢true}
use Rattle.std.proofs.lemmas.List.{get_or-set_same, get_or-set_other}
use Rattle.std.proofs.lemmas.List.Elements.{All-head, All-tail}
use Rattle.std.proofs.lemmas.Option.{none-some, same_Some}
use Rattle.wc_model.specs.Workspace.Closures.{has_kind}
use Rattle.wc_model.specs.Workspace.History.{key_with}
use Rattle.wc_model.specs.Workspace.States.{Opening, in_store, is_session}
use Rattle.wc_core.specs.Features.{arc_at}
use Rattle.wc_core.specs.Inner.Lines.{AreApart, Line, copy_for, names, row_of}
use Rattle.wc_core.specs.Inner.Moves.{Had, Lines, holding, pulled, pulled_one}
use Rattle.wc_core.specs.Inner.Shelves.{KnownShelf, copy_of, shelf_taken}
use Rattle.wc_core.specs.Inner.Stocks.{AreCopiedBut}
use Rattle.wc_core.proofs.CopyLemmas.{IsThis, copy_other, is_some_of, taken_was, this_or}
use Rattle.wc_core.proofs.LineLemmas.{names_stay}
use Rattle.wc_core.proofs.TestLemmas.{gained, joined, kept, lacked, or_false, or_true}
use Rattle.wc_core.proofs.ShelfLemmas.{copy_is, find_shelf, keeps_taken, lines_changed, row_changed, rows_stay, shapes_stay, stored_is}

-- The ask of a session has a kind, under its own stamp.
abbrev pub OwnHas : {V : Type 0} → List ℕ → ℕ → (ℕ → ℕ) → Had V → List ℕ → ℕ → ℕ → ℕ → Type 0
OwnHas name session own had n k s y = (y ≡ session) × (n ≡ name) × (own k ≡ s) × (is_some (arc_at k had) ≡ true)

abbrev pub Excused : {V : Type 0} → (List ℕ → ℕ → ℕ → ℕ → Type 0) → List ℕ → ℕ → (ℕ → ℕ) → Had V → List ℕ → ℕ → ℕ → ℕ → Type 0
Excused Others name session own had n k s y = Others n k s y ⊎ OwnHas name session own had n k s y

pub record IsPulled {V : Type 0} (o : Opening) (Others : List ℕ → ℕ → ℕ → ℕ → Type 0) (name : List ℕ) (session : ℕ) (own : ℕ → ℕ) (kinds : List ℕ) (had new_had : Had V) (lines new_lines : Lines V) : Type 0 where
  pub rows : map row_of new_lines ≡ map row_of lines
  pub named : names new_lines ≡ names lines
  pub shaped : (room wide : ℕ) → All (λ (l : Line (Arc V Global)). (room ≤ l.row.room) × All (λ (s : KnownShelf (Arc V Global)). length s.copies ≡ wide) l.row.shelves) lines → All (λ (l : Line (Arc V Global)). (room ≤ l.row.room) × All (λ (s : KnownShelf (Arc V Global)). length s.copies ≡ wide) l.row.shelves) new_lines
  pub copied : AreCopiedBut o (Excused Others name session own new_had) new_lines
  pub was : (n : List ℕ) (k s y : ℕ) (a : Arc V Global) → copy_for n k s y new_lines ≡ Some a → copy_for n k s y lines ≡ Some a
  pub has : (j : ℕ) → is_some (arc_at j new_had) ≡ (is_some (arc_at j had) || (has_kind j kinds && in_store (key_with j name (own j)) (map row_of lines)))
  pub came : (j : ℕ) (a : Arc V Global) → arc_at j new_had ≡ Some a → (arc_at j had ≡ Some a) ⊎ (copy_for name j (own j) session lines ≡ Some a)
  pub wide : length new_had ≡ 65

length-set : {A : Type 0} (xs : List A) (i : ℕ) (a : A) → length (set xs i a) ≡ length xs
length-set [] i a = refl
length-set (x ∷ xs) zero a = refl
length-set (x ∷ xs) (suc i) a = ap (λ n. suc n) (length-set xs i a)

-- the places of what is held
module _ {V : Type 0} (kind : ℕ) (had : Had V) (within : kind < length had) where
  apart_kinds : (j : ℕ) → (kind == j) ≡ false → j ≢ kind
  apart_kinds j apart same = false≢true (sym apart ∙ eq-eqb kind j (sym same))

  at_kind : (c : Arc V Global) (j : ℕ) (same : Bool) → (kind == j) ≡ same → is_some (arc_at j (set had kind (Some c))) ≡ (is_some (arc_at j had) || same)
  at_kind c j true is = ap is_some (ap (λ k. arc_at k (set had kind (Some c))) (sym (eqb-true kind j is)) ∙ get_or-set_same had kind (Some c) None within) ∙ sym (or_true (is_some (arc_at j had)))
  at_kind c j false is = ap is_some (get_or-set_other had kind j (Some c) None (apart_kinds j is)) ∙ sym (or_false (is_some (arc_at j had)))

  pub held_is : (c : Arc V Global) (j : ℕ) → is_some (arc_at j (set had kind (Some c))) ≡ (is_some (arc_at j had) || (kind == j))
  held_is c j = at_kind c j (kind == j) refl

  held_case : (c : Arc V Global) (j : ℕ) (a : Arc V Global) (same : Bool) → (kind == j) ≡ same → arc_at j (set had kind (Some c)) ≡ Some a → (arc_at j had ≡ Some a) ⊎ ((j ≡ kind) × (c ≡ a))
  held_case c j a true same is = let at : kind ≡ j = eqb-true kind j same in inr (sym at, same_Some c a (sym (ap (λ k. arc_at k (set had kind (Some c))) (sym at) ∙ get_or-set_same had kind (Some c) None within) ∙ is))
  held_case c j a false apart is = inl (sym (get_or-set_other had kind j (Some c) None (apart_kinds j apart)) ∙ is)

  pub held_or : (c : Arc V Global) (j : ℕ) (a : Arc V Global) → arc_at j (set had kind (Some c)) ≡ Some a → (arc_at j had ≡ Some a) ⊎ ((j ≡ kind) × (c ≡ a))
  held_or c j a is = held_case c j a (kind == j) refl is

abbrev pub Shaped : {V : Type 0} → ℕ → ℕ → Line (Arc V Global) → Type 0
Shaped {V} room wide l = (room ≤ l.row.room) × All (λ (s : KnownShelf (Arc V Global)). length s.copies ≡ wide) l.row.shelves

abbrev pub keys_of : (ℕ → ℕ) → List ℕ → List (ℕ × ℕ)
keys_of own kinds = map (λ k. (k, own k)) kinds

there : {V : Type 0} (y : ℕ) (a : Arc V Global) (found : Option (KnownShelf (Arc V Global))) → option_and_then (copy_of y) found ≡ Some a → is_some found ≡ true
there y a None at = absurd (none-some a at)
there y a (Some f) at = refl

-- what there is a copy of is stored
pub copy_stored : {V : Type 0} (name : List ℕ) (kind stamp session : ℕ) (lines : Lines V) (a : Arc V Global) → AreApart (names lines) → copy_for name kind stamp session lines ≡ Some a → in_store (key_with kind name stamp) (map row_of lines) ≡ true
copy_stored name kind stamp session lines a apart is = stored_is name kind stamp lines apart ∙ there session a (find_shelf name kind stamp lines) (sym (copy_is name kind stamp session lines) ∙ is)

module _ {V : Type 0} (o : Opening) (Others : List ℕ → ℕ → ℕ → ℕ → Type 0) (name : List ℕ) (session : ℕ) (own : ℕ → ℕ)
    (known : is_session o session ≡ true)
    (others : (n : List ℕ) (k s : ℕ) → Others n k s session → ⊥) where
  abbrev Ex : Had V → List ℕ → ℕ → ℕ → ℕ → Type 0
  Ex had n k s y = Excused Others name session own had n k s y

  abbrev stored_own : ℕ → Lines V → Bool
  stored_own kind lines = in_store (key_with kind name (own kind)) (map row_of lines)

  abbrev taken : ℕ → Lines V → Lines V
  taken kind lines = lines_changed name kind (own kind) (shelf_taken session) lines

  stored_some : (kind : ℕ) (lines : Lines V) (a : Arc V Global) → AreApart (names lines) → copy_for name kind (own kind) session lines ≡ Some a → stored_own kind lines ≡ true
  stored_some kind lines a apart is = copy_stored name kind (own kind) session lines a apart is

  -- where there is no copy, and the ask has none, the key isn't stored
  unstored : (kind : ℕ) (had : Had V) (lines : Lines V) (is : Bool) → stored_own kind lines ≡ is → AreCopiedBut o (Ex had) lines → is_some (arc_at kind had) ≡ false → copy_for name kind (own kind) session lines ≡ None → is ≡ false
  unstored kind had lines false is copied lacks none = refl
  unstored kind had lines true is copied lacks none =
      absurd (⊎_elim (λ (found : IsSome (copy_for name kind (own kind) session lines)). false≢true (subst (λ c. IsSome c) none found))
      (λ (excused : Ex had name kind (own kind) session). ⊎_elim (λ (other : Others name kind (own kind) session). others name kind (own kind) other) (λ (mine : OwnHas name session own had name kind (own kind) session). false≢true (sym lacks ∙ mine.3)) excused)
      (copied name kind (own kind) session known is))

  take_copied : (kind : ℕ) (had new_had : Had V) (lines : Lines V) → AreCopiedBut o (Ex had) lines
      → ((j : ℕ) → is_some (arc_at j had) ≡ true → is_some (arc_at j new_had) ≡ true)
      → (IsSome (copy_for name kind (own kind) session lines) → is_some (arc_at kind new_had) ≡ true)
      → AreCopiedBut o (Ex new_had) (taken kind lines)
  take_copied kind had new_had lines copied more takes n k s y is stored =
      ⊎_elim (λ (found : IsSome (copy_for n k s y lines)).
      ⊎_elim (λ (this : IsThis name kind (own kind) session n k s y).
      let now : IsSome (copy_for name kind (own kind) session lines) = subst (λ c. IsSome c) (ap (λ m. copy_for m k s y lines) this.0 ∙ ap₂ (λ b c. copy_for name b c y lines) this.1 this.2 ∙ ap (λ z. copy_for name kind (own kind) z lines) this.3) found in
      inr (inr (this.3, this.0, ap own this.1 ∙ sym this.2, ap (λ j. is_some (arc_at j new_had)) this.1 ∙ takes now)))
      (λ (other : IsThis name kind (own kind) session n k s y → ⊥). inl (subst (λ c. IsSome c) (sym (copy_other session (shelf_taken session) (keeps_taken session) name kind (own kind) lines n k s y other)) found))
      (this_or name kind (own kind) session n k s y))
      (λ (excused : Ex had n k s y).
      inr (⊎_elim (λ (other : Others n k s y). inl other) (λ (mine : OwnHas name session own had n k s y). inr (mine.0, mine.1, mine.2, more k mine.3)) excused))
      (copied n k s y is (sym (ap (in_store (key_with k n s)) (rows_stay session (shelf_taken session) (keeps_taken session) name kind (own kind) lines)) ∙ stored))

  -- one key: no copy, a copy, or a kind that the ask has
  one_none : (kind : ℕ) (had : Had V) (lines : Lines V) → AreCopiedBut o (Ex had) lines → length had ≡ 65 → is_some (arc_at kind had) ≡ false → copy_for name kind (own kind) session lines ≡ None
      → IsPulled o Others name session own (kind ∷ []) had had lines (taken kind lines)
  one_none kind had lines copied wide lacks none =
      record {
        rows = rows_stay session (shelf_taken session) (keeps_taken session) name kind (own kind) lines;
        named = names_stay (row_changed kind (own kind) (shelf_taken session)) name lines;
        shaped = λ room wide all. shapes_stay session (shelf_taken session) (keeps_taken session) room wide name kind (own kind) lines all;
        copied = take_copied kind had had lines copied (λ j is. is) (λ found. absurd (false≢true (subst (λ c. IsSome c) none found)));
        was = λ n k s y a is. taken_was session name kind (own kind) lines n k s y a is;
        has = λ j. lacked (kind == j) (stored_own j lines) (is_some (arc_at j had)) (λ same. ap (λ k. stored_own k lines) (sym (eqb-true kind j same)) ∙ unstored kind had lines (stored_own kind lines) refl copied lacks none);
        came = λ j a is. inl is;
        wide = wide;
      }

  one_some : (kind : ℕ) (had : Had V) (lines : Lines V) (c : Arc V Global) → AreApart (names lines) → AreCopiedBut o (Ex had) lines → length had ≡ 65 → kind < 65 → copy_for name kind (own kind) session lines ≡ Some c
      → IsPulled o Others name session own (kind ∷ []) had (set had kind (Some c)) lines (taken kind lines)
  one_some kind had lines c apart copied wide small is_c =
      let within : kind < length had = omega (arith, wide, small) in
      record {
        rows = rows_stay session (shelf_taken session) (keeps_taken session) name kind (own kind) lines;
        named = names_stay (row_changed kind (own kind) (shelf_taken session)) name lines;
        shaped = λ room wide all. shapes_stay session (shelf_taken session) (keeps_taken session) room wide name kind (own kind) lines all;
        copied = take_copied kind had (set had kind (Some c)) lines copied (λ j is. held_is kind had within c j ∙ ap (λ b. b || (kind == j)) is)
            (λ found. ap is_some (get_or-set_same had kind (Some c) None within));
        was = λ n k s y a is. taken_was session name kind (own kind) lines n k s y a is;
        has = λ j. held_is kind had within c j ∙ gained (kind == j) (stored_own j lines) (is_some (arc_at j had)) (λ same. ap (λ k. stored_own k lines) (sym (eqb-true kind j same)) ∙ stored_some kind lines c apart is_c);
        came = λ j a is. ⊎_elim (λ (old : arc_at j had ≡ Some a). inl old) (λ (new : (j ≡ kind) × (c ≡ a)). inr (ap (λ k. copy_for name k (own k) session lines) new.0 ∙ is_c ∙ ap Some new.1)) (held_or kind had within c j a is);
        wide = length-set had kind (Some c) ∙ wide;
      }

  one_had : (kind : ℕ) (had : Had V) (lines : Lines V) → AreCopiedBut o (Ex had) lines → length had ≡ 65 → is_some (arc_at kind had) ≡ true → IsPulled o Others name session own (kind ∷ []) had had lines lines
  one_had kind had lines copied wide has =
      record {
        rows = refl;
        named = refl;
        shaped = λ room wide all. all;
        copied = copied;
        was = λ n k s y a is. is;
        has = λ j. kept (kind == j) (stored_own j lines) (is_some (arc_at j had)) (λ same. ap (λ k. is_some (arc_at k had)) (sym (eqb-true kind j same)) ∙ has);
        came = λ j a is. inl is;
        wide = wide;
      }

  abbrev OneIs : ℕ → Had V → Lines V → Had V × Lines V → Type 0
  OneIs kind had lines next = IsPulled o Others name session own (kind ∷ []) had next.0 lines next.1

  hold_case : (kind : ℕ) (had : Had V) (lines : Lines V) (copy : Option (Arc V Global)) → copy_for name kind (own kind) session lines ≡ copy → AreApart (names lines) → AreCopiedBut o (Ex had) lines → length had ≡ 65 → kind < 65 → is_some (arc_at kind had) ≡ false
      → OneIs kind had lines (holding kind copy had, taken kind lines)
  hold_case kind had lines None is apart copied wide small lacks = one_none kind had lines copied wide lacks is
  hold_case kind had lines (Some c) is apart copied wide small lacks = one_some kind had lines c apart copied wide small is

  one_case : (kind : ℕ) (had : Had V) (lines : Lines V) (has : Bool) → is_some (arc_at kind had) ≡ has → AreApart (names lines) → AreCopiedBut o (Ex had) lines → length had ≡ 65 → kind < 65
      → OneIs kind had lines (if has then (had, lines) else (holding kind (copy_for name kind (own kind) session lines) had, taken kind lines))
  one_case kind had lines true is apart copied wide small = one_had kind had lines copied wide is
  one_case kind had lines false is apart copied wide small = hold_case kind had lines (copy_for name kind (own kind) session lines) refl apart copied wide small is

  pulled_more : (kind : ℕ) (kinds : List ℕ) (had had1 had2 : Had V) (lines lines1 lines2 : Lines V) → IsPulled o Others name session own (kind ∷ []) had had1 lines lines1 → IsPulled o Others name session own kinds had1 had2 lines1 lines2 → IsPulled o Others name session own (kind ∷ kinds) had had2 lines lines2
  pulled_more kind kinds had had1 had2 lines lines1 lines2 one rest =
      record {
        rows = rest.rows ∙ one.rows;
        named = rest.named ∙ one.named;
        shaped = λ room wide all. rest.shaped room wide (one.shaped room wide all);
        copied = rest.copied;
        was = λ n k s y a is. one.was n k s y a (rest.was n k s y a is);
        has = λ j. rest.has j ∙ ap₂ (λ a s. a || (has_kind j kinds && s)) (one.has j) (ap (in_store (key_with j name (own j))) one.rows) ∙ joined (is_some (arc_at j had)) (kind == j) (has_kind j kinds) (stored_own j lines);
        came = λ j a is. ⊎_elim (λ (mid : arc_at j had1 ≡ Some a). one.came j a mid) (λ (new : copy_for name j (own j) session lines1 ≡ Some a). inr (one.was name j (own j) session a new)) (rest.came j a is);
        wide = rest.wide;
      }

  pub pulled_is : (kinds : List ℕ) (had : Had V) (lines : Lines V) → All (λ k. k < 65) kinds → AreApart (names lines) → AreCopiedBut o (Ex had) lines → length had ≡ 65
      → IsPulled o Others name session own kinds had (pulled name session (keys_of own kinds) had lines).0 lines (pulled name session (keys_of own kinds) had lines).1
  pulled_is [] had lines small apart copied wide =
      record { rows = refl; named = refl; shaped = λ room wide all. all; copied = copied; was = λ n k s y a is. is; has = λ j. sym (or_false (is_some (arc_at j had))); came = λ j a is. inl is; wide = wide }
  pulled_is (k ∷ ks) had lines small apart copied wide =
      let next : Had V × Lines V = pulled_one name session (k, own k) had lines in
      let one : OneIs k had lines next = one_case k had lines (is_some (arc_at k had)) refl apart copied wide (All-head (λ j. j < 65) k ks small) in
      pulled_more k ks had next.0 (pulled name session (keys_of own ks) next.0 next.1).0 lines next.1 (pulled name session (keys_of own ks) next.0 next.1).1 one
      (pulled_is ks next.0 next.1 (All-tail (λ j. j < 65) k ks small) (subst (λ ns. AreApart ns) (sym one.named) apart) one.copied one.wide)
