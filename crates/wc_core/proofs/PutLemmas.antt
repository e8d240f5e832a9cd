-- What an ask puts back into the store at its answer.
use Rattle.std.proofs.Common.{ℕ, zero, suc, ◌≡◌, ◌≢◌, ◌+◌, ◌<◌, ◌≤◌, ◌⊎◌, ◌==◌, ◌&&◌, ◌||◌, Bool, true, false, cond, if◌then◌else◌, inl, inr, ⊎_elim, List, [], ◌∷◌, Option, None, Some, IsSome, is_some, map, length, set, refl, sym, ap, ap₂, subst, ◌∙◌, arith}
use Rattle.std.specs.Global.{Global}
use Rattle.std.specs.List.{All, find, list_any}
use Rattle.std.specs.declared.sync.Arc.{Arc}
use Rattle.std.proofs.lemmas.Bool.{eq-eqb, eqb-true, false≢true}
use Rattle.std.proofs.lemmas.List.{get_or-set_other}
use Rattle.std.proofs.lemmas.Option.{none-some}
use Rattle.wc_model.specs.Workspace.Closures.{has_kind}
use Rattle.wc_model.specs.Workspace.History.{key_with}
use Rattle.wc_model.specs.Workspace.States.{Opening, in_store, is_session}
use Rattle.wc_core.specs.Features.{arc_at}
use Rattle.wc_core.specs.Inner.Lines.{AreApart, Line, copy_for, is_named, names, row_of}
use Rattle.wc_core.specs.Inner.Moves.{Had, Lines, filled_with, put, put_one}
use Rattle.wc_core.specs.Inner.Shelves.{KnownShelf, is_shelf, shelf_filled}
use Rattle.wc_core.specs.Inner.Stocks.{AreCopiedBut}
use Rattle.wc_core.proofs.CopyLemmas.{IsThis, copy_other, filled_full, filled_or, set_none, this_or}
use Rattle.wc_core.proofs.LineLemmas.{equal_turned, names_stay}
use Rattle.wc_core.proofs.FindLemmas.{found_all, then_some}
use Rattle.wc_core.proofs.PullLemmas.{OwnHas, Shaped, keys_of}
use Rattle.wc_core.proofs.ShelfLemmas.{find_shelf, keeps_filled, lines_changed, row_changed, rows_stay, shapes_stay, stored_is}

-- The ask has yet to put back one of some kinds.
abbrev pub PutsYet : {V : Type 0} → (List ℕ → ℕ → ℕ → ℕ → Type 0) → List ℕ → ℕ → (ℕ → ℕ) → List ℕ → Had V → List ℕ → ℕ → ℕ → ℕ → Type 0
PutsYet Others name session own kinds had n k s y = Others n k s y ⊎ (OwnHas name session own had n k s y × (has_kind k kinds ≡ true))

-- What a copy that is found was before.
abbrev pub WasOrPut : {V : Type 0} → List ℕ → (ℕ → ℕ) → Had V → Lines V → List ℕ → ℕ → ℕ → ℕ → Arc V Global → Type 0
WasOrPut name own had lines n k s y a = (copy_for n k s y lines ≡ Some a) ⊎ ((n ≡ name) × (own k ≡ s) × (arc_at k had ≡ Some a))

pub record IsPut {V : Type 0} (o : Opening) (Others : List ℕ → ℕ → ℕ → ℕ → Type 0) (name : List ℕ) (session : ℕ) (own : ℕ → ℕ) (had : Had V) (lines new_lines : Lines V) (rest : List ℕ) (new_had : Had V) : Type 0 where
  pub rows : map row_of new_lines ≡ map row_of lines
  pub named : names new_lines ≡ names lines
  pub shaped : (room : ℕ) → All (Shaped room (o.sessions + 1)) lines → All (Shaped room (o.sessions + 1)) new_lines
  pub copied : AreCopiedBut o (PutsYet Others name session own rest new_had) new_lines
  pub was : (n : List ℕ) (k s y : ℕ) (a : Arc V Global) → copy_for n k s y new_lines ≡ Some a → WasOrPut name own had lines n k s y a
  pub less : (k : ℕ) (a : Arc V Global) → arc_at k new_had ≡ Some a → arc_at k had ≡ Some a

module _ {V : Type 0} (kind : ℕ) (had : Had V) where
  less_case : (k : ℕ) (a : Arc V Global) (same : Bool) → (k == kind) ≡ same → arc_at k (set had kind None) ≡ Some a → arc_at k had ≡ Some a
  less_case k a true is at = absurd (none-some a (sym (set_none had kind) ∙ ap (λ j. arc_at j (set had kind None)) (sym (eqb-true k kind is)) ∙ at))
  less_case k a false is at = sym (get_or-set_other had kind k None None (λ (same : k ≡ kind). false≢true (sym is ∙ eq-eqb k kind same))) ∙ at

  pub less_had : (k : ℕ) (a : Arc V Global) → arc_at k (set had kind None) ≡ Some a → arc_at k had ≡ Some a
  less_had k a at = less_case k a (k == kind) refl at

  pub other_had : (k : ℕ) → (k == kind) ≡ false → arc_at k (set had kind None) ≡ arc_at k had
  other_had k is = get_or-set_other had kind k None None (λ (same : k ≡ kind). false≢true (sym is ∙ eq-eqb k kind same))

some_is : {A : Type 0} (o : Option A) → is_some o ≡ true → IsSome o
some_is None is = absurd (false≢true is)
some_is (Some a) is = refl

module _ {V : Type 0} (o : Opening) (Others : List ℕ → ℕ → ℕ → ℕ → Type 0) (name : List ℕ) (session : ℕ) (own : ℕ → ℕ)
    (small : session < o.sessions + 1) where
  abbrev Yet : List ℕ → Had V → List ℕ → ℕ → ℕ → ℕ → Type 0
  Yet kinds had n k s y = PutsYet Others name session own kinds had n k s y

  abbrev filled : ℕ → Arc V Global → Lines V → Lines V
  filled kind c lines = lines_changed name kind (own kind) (shelf_filled session c) lines

  found_wide : (n : List ℕ) (k s room : ℕ) (lines : Lines V) (f : KnownShelf (Arc V Global)) → All (Shaped room (o.sessions + 1)) lines → find_shelf n k s lines ≡ Some f → length f.copies ≡ o.sessions + 1
  found_wide n k s room lines f shaped is =
      let at = then_some (λ (l : Line (Arc V Global)). find (is_shelf k s) l.row.shelves) (find (is_named n) lines) f is in
      found_all (λ (g : KnownShelf (Arc V Global)). length g.copies ≡ o.sessions + 1) (is_shelf k s) (at.0).row.shelves f (found_all (Shaped room (o.sessions + 1)) (is_named n) lines at.0 shaped at.1).1 at.2

  -- after a copy is put in, what was full is so still, and the key is
  put_copied : (kind room : ℕ) (kinds : List ℕ) (had : Had V) (c : Arc V Global) (lines : Lines V) → AreApart (names lines) → All (Shaped room (o.sessions + 1)) lines → arc_at kind had ≡ Some c
      → AreCopiedBut o (Yet (kind ∷ kinds) had) lines → AreCopiedBut o (Yet kinds (set had kind None)) (filled kind c lines)
  put_copied kind room kinds had c lines apart shaped is_c copied n k s y is stored =
      let before : in_store (key_with k n s) (map row_of lines) ≡ true = sym (ap (in_store (key_with k n s)) (rows_stay session (shelf_filled session c) (keeps_filled session c) name kind (own kind) lines)) ∙ stored in
      ⊎_elim (λ (this : IsThis name kind (own kind) session n k s y). inl (here this before))
      (λ (other : IsThis name kind (own kind) session n k s y → ⊥).
      let same = copy_other session (shelf_filled session c) (keeps_filled session c) name kind (own kind) lines n k s y other in
      ⊎_elim (λ (found : IsSome (copy_for n k s y lines)). inl (subst (λ x. IsSome x) (sym same) found))
      (λ (yet : Yet (kind ∷ kinds) had n k s y).
      inr (⊎_elim (λ (free : Others n k s y). inl free)
      (λ (mine : OwnHas name session own had n k s y × (has_kind k (kind ∷ kinds) ≡ true)). later mine other (kind == k) refl) yet))
      (copied n k s y is before))
      (this_or name kind (own kind) session n k s y) where
        here : IsThis name kind (own kind) session n k s y → in_store (key_with k n s) (map row_of lines) ≡ true → IsSome (copy_for n k s y (filled kind c lines))
        here this before =
            let key : in_store (key_with kind name (own kind)) (map row_of lines) ≡ true = sym (ap (λ m. in_store (key_with k m s) (map row_of lines)) this.0 ∙ ap₂ (λ a b. in_store (key_with a name b) (map row_of lines)) this.1 this.2) ∙ before in
            let found : IsSome (find_shelf name kind (own kind) lines) = some_is (find_shelf name kind (own kind) lines) (sym (stored_is name kind (own kind) lines apart) ∙ key) in
            let full = filled_full session name kind (own kind) lines c found (λ f at. omega (arith, small, found_wide name kind (own kind) room lines f shaped at)) in
            subst (λ x. IsSome x) (sym (ap (λ m. copy_for m k s y (filled kind c lines)) this.0 ∙ ap₂ (λ a b. copy_for name a b y (filled kind c lines)) this.1 this.2 ∙ ap (λ z. copy_for name kind (own kind) z (filled kind c lines)) this.3)) full

        later : OwnHas name session own had n k s y × (has_kind k (kind ∷ kinds) ≡ true) → (IsThis name kind (own kind) session n k s y → ⊥) → (same : Bool) → (kind == k) ≡ same → Yet kinds (set had kind None) n k s y
        later mine other true same = let at : kind ≡ k = eqb-true kind k same in absurd (other ((mine.0).1, sym at, sym (mine.0).2 ∙ ap own (sym at), (mine.0).0))
        later mine other false same =
            inr (((mine.0).0, (mine.0).1, (mine.0).2, ap is_some (other_had kind had k (equal_turned k kind ∙ same)) ∙ (mine.0).3), sym (ap (λ b. b || has_kind k kinds) same) ∙ mine.1)

  skip_copied : (kind : ℕ) (kinds : List ℕ) (had : Had V) (lines : Lines V) → arc_at kind had ≡ None → AreCopiedBut o (Yet (kind ∷ kinds) had) lines → AreCopiedBut o (Yet kinds (set had kind None)) lines
  skip_copied kind kinds had lines none copied n k s y is stored =
      ⊎_elim (λ (found : IsSome (copy_for n k s y lines)). inl found)
      (λ (yet : Yet (kind ∷ kinds) had n k s y).
      inr (⊎_elim (λ (free : Others n k s y). inl free)
      (λ (mine : OwnHas name session own had n k s y × (has_kind k (kind ∷ kinds) ≡ true)). later mine (kind == k) refl) yet))
      (copied n k s y is stored) where
        later : OwnHas name session own had n k s y × (has_kind k (kind ∷ kinds) ≡ true) → (same : Bool) → (kind == k) ≡ same → Yet kinds (set had kind None) n k s y
        later mine true same = absurd (false≢true (sym (ap is_some (ap (λ j. arc_at j had) (sym (eqb-true kind k same)) ∙ none)) ∙ (mine.0).3))
        later mine false same =
            inr (((mine.0).0, (mine.0).1, (mine.0).2, ap is_some (other_had kind had k (equal_turned k kind ∙ same)) ∙ (mine.0).3), sym (ap (λ b. b || has_kind k kinds) same) ∙ mine.1)

  abbrev OneIs : ℕ → List ℕ → Had V → Lines V → Had V × Lines V → Type 0
  OneIs kind kinds had lines next = IsPut o Others name session own had lines next.1 kinds next.0

  one_case : (kind room : ℕ) (kinds : List ℕ) (had : Had V) (lines : Lines V) (copy : Option (Arc V Global)) → arc_at kind had ≡ copy → AreApart (names lines) → All (Shaped room (o.sessions + 1)) lines → AreCopiedBut o (Yet (kind ∷ kinds) had) lines
      → OneIs kind kinds had lines (set had kind None, filled_with name session (kind, own kind) copy lines)
  one_case kind room kinds had lines None is apart shaped copied =
      record { rows = refl; named = refl; shaped = λ r all. all; copied = skip_copied kind kinds had lines is copied; was = λ n k s y a at. inl at; less = less_had kind had }
  one_case kind room kinds had lines (Some c) is apart shaped copied =
      record {
        rows = rows_stay session (shelf_filled session c) (keeps_filled session c) name kind (own kind) lines;
        named = names_stay (row_changed kind (own kind) (shelf_filled session c)) name lines;
        shaped = λ r all. shapes_stay session (shelf_filled session c) (keeps_filled session c) r (o.sessions + 1) name kind (own kind) lines all;
        copied = put_copied kind room kinds had c lines apart shaped is copied;
        was = λ n k s y a at. ⊎_elim (λ (old : copy_for n k s y lines ≡ Some a). inl old)
            (λ (new : (n ≡ name) × (k ≡ kind) × (s ≡ own kind) × (a ≡ c)). inr (new.0, ap own new.1 ∙ sym new.2, ap (λ j. arc_at j had) new.1 ∙ is ∙ ap Some (sym new.3)))
            (filled_or session name kind (own kind) lines c n k s y a at);
        less = less_had kind had;
      }

  more : (kind : ℕ) (kinds : List ℕ) (had had1 had2 : Had V) (lines lines1 lines2 : Lines V) → IsPut o Others name session own had lines lines1 kinds had1 → IsPut o Others name session own had1 lines1 lines2 [] had2 → IsPut o Others name session own had lines lines2 [] had2
  more kind kinds had had1 had2 lines lines1 lines2 one rest =
      record {
        rows = rest.rows ∙ one.rows;
        named = rest.named ∙ one.named;
        shaped = λ r all. rest.shaped r (one.shaped r all);
        copied = rest.copied;
        was = λ n k s y a at. ⊎_elim (λ (old : copy_for n k s y lines1 ≡ Some a). one.was n k s y a old)
            (λ (new : (n ≡ name) × (own k ≡ s) × (arc_at k had1 ≡ Some a)). inr (new.0, new.1, one.less k a new.2)) (rest.was n k s y a at);
        less = λ k a at. one.less k a (rest.less k a at);
      }

  pub put_is : (room : ℕ) (kinds : List ℕ) (had : Had V) (lines : Lines V) → AreApart (names lines) → All (Shaped room (o.sessions + 1)) lines → AreCopiedBut o (Yet kinds had) lines
      → IsPut o Others name session own had lines (put name session (keys_of own kinds) had lines).1 [] (put name session (keys_of own kinds) had lines).0
  put_is room [] had lines apart shaped copied = record { rows = refl; named = refl; shaped = λ r all. all; copied = copied; was = λ n k s y a at. inl at; less = λ k a at. at }
  put_is room (k ∷ ks) had lines apart shaped copied =
      let next : Had V × Lines V = put_one name session (k, own k) had lines in
      let one : OneIs k ks had lines next = one_case k room ks had lines (arc_at k had) refl apart shaped copied in
      more k ks had next.0 (put name session (keys_of own ks) next.0 next.1).0 lines next.1 (put name session (keys_of own ks) next.0 next.1).1 one
      (put_is room ks next.0 next.1 (subst (λ ns. AreApart ns) (sym one.named) apart) (one.shaped room shaped) one.copied)
