-- What is kept, and what an edit leaves.
use Rattle.std.proofs.Common.{ℕ, zero, suc, ◌≡◌, ◌<◌, ◌≤◌, ◌⊎◌, ◌==◌, ◌&&◌, ◌||◌, Bool, true, false, cond, not, if◌then◌else◌, inl, inr, ⊎_elim, List, [], ◌∷◌, ◌++◌, drop, Option, None, Some, is_some, map, length, refl, sym, ap, ap₂, subst, ◌∙◌, arith, nat_le}
use Rattle.std.specs.List.{All, find, filter, list_any}
use Rattle.std.specs.Option.{option_and_then, option_map}
use Rattle.std.proofs.lemmas.Bool.{and_parts, cases_Bool, eqb-true, false≢true, or_parts, true≢false}
use Rattle.std.proofs.lemmas.List.Elements.{All-append, All-cons, All-drop, All-filter, All-head, All-nil, All-tail}
use Rattle.std.proofs.lemmas.Option.{none-some, same_Some}
use Rattle.wc_base.proofs.TestLemmas.{if_true, if_false}
use Rattle.wc_model.specs.Workspace.Firsts.{change_first}
use Rattle.wc_model.specs.Workspace.History.{key_with}
use Rattle.wc_model.specs.Workspace.States.{Row, has_key, has_row, in_store, same_name, stored, with_key, with_room}
use Rattle.wc_core.specs.Inner.Lines.{AreApart, AreFew, HasPlace, Line, at_name, is_named, kept, names, row_of}
use Rattle.wc_core.specs.Inner.Shelves.{KnownRow, KnownShelf, is_shelf, row_longer}
use Rattle.wc_core.specs.Inner.Touching.{lines_cut, row_cut}
use Rattle.wc_core.proofs.FindLemmas.{find_changed, find_gone, find_kept, find_map, find_other, find_snoc, then_some}
use Rattle.wc_core.proofs.TestLemmas.{or_false}
use Rattle.wc_core.proofs.LineLemmas.{name_is, names_stay, turned}
use Rattle.wc_core.proofs.ShelfLemmas.{find_shelf, keyed}

module _ {C : Type 0} (name : List ℕ) (row : KnownRow C) (shelf : KnownShelf C) where
  abbrev longer : Line C → Line C
  longer l = record l { row = row_longer shelf l.row }

  abbrev new_line : Line C
  new_line = record { name = name; row = row_longer shelf row }

  key_parts : (k s : ℕ) → is_shelf k s shelf ≡ true → (k ≡ shelf.kind) × (s ≡ shelf.stamp)
  key_parts k s is = let both = and_parts (shelf.kind == k) (shelf.stamp == s) is in (sym (eqb-true shelf.kind k both.0), sym (eqb-true shelf.stamp s both.1))

  snoc_found : (n : List ℕ) (k s : ℕ) (ss : List (KnownShelf C)) (found : KnownShelf C) → n ≡ name → find (is_shelf k s) (ss ++ shelf ∷ []) ≡ Some found
      → (find (is_shelf k s) ss ≡ Some found) ⊎ ((n ≡ name) × (k ≡ shelf.kind) × (s ≡ shelf.stamp) × (shelf ≡ found))
  snoc_found n k s ss found same is =
      ⊎_elim (λ (old : find (is_shelf k s) ss ≡ Some found). inl old)
      (λ (new : (is_shelf k s shelf ≡ true) × (shelf ≡ found)). let key = key_parts k s new.0 in inr (same, key.0, key.1, new.1))
      (find_snoc (is_shelf k s) ss shelf found is)

  -- in a row that is there
  there_same : (n : List ℕ) (k s : ℕ) (found : KnownShelf C) (ls : List (Line C)) (o : Option (Line C)) → n ≡ name → find (is_named n) ls ≡ o → option_and_then (λ (l : Line C). find (is_shelf k s) l.row.shelves) (option_map longer o) ≡ Some found
      → (option_and_then (λ (l : Line C). find (is_shelf k s) l.row.shelves) (find (is_named n) ls) ≡ Some found) ⊎ ((n ≡ name) × (k ≡ shelf.kind) × (s ≡ shelf.stamp) × (shelf ≡ found))
  there_same n k s found ls None same at is = absurd (none-some found is)
  there_same n k s found ls (Some l) same at is =
      ⊎_elim (λ (old : find (is_shelf k s) l.row.shelves ≡ Some found). inl (ap (option_and_then (λ (m : Line C). find (is_shelf k s) m.row.shelves)) at ∙ old))
      (λ (new : (n ≡ name) × (k ≡ shelf.kind) × (s ≡ shelf.stamp) × (shelf ≡ found)). inr new)
      (snoc_found n k s l.row.shelves found same is)

  names_apart : (n : List ℕ) → same_name n name ≡ false → (l : Line C) → is_named name l ≡ true → is_named n l ≡ false
  names_apart n apart l is = ap (λ m. same_name m n) (name_is l.name name is) ∙ turned name n ∙ apart

  there_case : (n : List ℕ) (k s : ℕ) (found : KnownShelf C) (ls : List (Line C)) (same : Bool) → same_name n name ≡ same → find_shelf n k s (at_name name (row_longer shelf) ls) ≡ Some found
      → (find_shelf n k s ls ≡ Some found) ⊎ ((n ≡ name) × (k ≡ shelf.kind) × (s ≡ shelf.stamp) × (shelf ≡ found))
  there_case n k s found ls true is at =
      let same = name_is n name is in
      there_same n k s found ls (find (is_named n) ls) same refl
      (sym (ap (option_and_then (λ (l : Line C). find (is_shelf k s) l.row.shelves)) (find_changed (is_named n) longer (λ l. refl) ls))
      ∙ ap (λ m. find_shelf n k s (at_name m (row_longer shelf) ls)) same ∙ at)
  there_case n k s found ls false is at =
      inl (sym (ap (option_and_then (λ (l : Line C). find (is_shelf k s) l.row.shelves)) (find_other (is_named n) (is_named name) longer (λ l here. (names_apart n is l here, names_apart n is l here)) ls)) ∙ at)

  -- in a new row
  any_case : (n : List ℕ) (x m : Line C) (xs : List (Line C)) (first : Bool) → cond first (Some x) (find (is_named n) xs) ≡ Some m → (find (is_named n) xs ≡ Some m → list_any (λ y. same_name y n) (names xs) ≡ true) → (first || list_any (λ y. same_name y n) (names xs)) ≡ true
  any_case n x m xs true found later = refl
  any_case n x m xs false found later = later found

  any_named : (n : List ℕ) (xs : List (Line C)) (m : Line C) → find (is_named n) xs ≡ Some m → list_any (λ y. same_name y n) (names xs) ≡ true
  any_named n [] m found = absurd (none-some m found)
  any_named n (x ∷ xs) m found = any_case n x m xs (is_named n x) found (λ later. any_named n xs m later)

  found_later : (n : List ℕ) (l : Line C) (ls : List (Line C)) (m : Line C) (here : Bool) → is_named n l ≡ here → AreApart (names (l ∷ ls)) → find (is_named n) ls ≡ Some m → cond here (Some l) (find (is_named n) ls) ≡ Some m
  found_later n l ls m false is apart at = at
  found_later n l ls m true is apart at = absurd (true≢false (sym (any_named n ls m at) ∙ ap (λ x. list_any (λ y. same_name y x) (names ls)) (sym (name_is l.name n is)) ∙ apart.0))

  room_case : (n : List ℕ) (ls : List (Line C)) (m : Line C) (full : Bool) → AreApart (names ls) → find (is_named n) (if full then drop 1 ls else ls) ≡ Some m → find (is_named n) ls ≡ Some m
  room_case n ls m false apart at = at
  room_case n [] m true apart at = at
  room_case n (l ∷ ls) m true apart at = found_later n l ls m (is_named n l) refl apart at

  back_case : (n : List ℕ) (k s : ℕ) (found : KnownShelf C) (ls : List (Line C)) (m : Line C) → row.shelves ≡ [] → AreApart (names ls) → find (is_shelf k s) m.row.shelves ≡ Some found
      → (find (is_named n) (with_room ls) ≡ Some m) ⊎ ((is_named n new_line ≡ true) × (new_line ≡ m))
      → (find_shelf n k s ls ≡ Some found) ⊎ ((n ≡ name) × (k ≡ shelf.kind) × (s ≡ shelf.stamp) × (shelf ≡ found))
  back_case n k s found ls m empty apart at (inl old) = inl (ap (option_and_then (λ (l : Line C). find (is_shelf k s) l.row.shelves)) (room_case n ls m (nat_le 32 (length ls)) apart old) ∙ at)
  back_case n k s found ls m empty apart at (inr new) =
      let same : n ≡ name = sym (name_is name n new.0) in
      let one : find (is_shelf k s) (row.shelves ++ shelf ∷ []) ≡ Some found = ap (λ (l : Line C). find (is_shelf k s) l.row.shelves) new.1 ∙ at in
      ⊎_elim (λ (old : find (is_shelf k s) row.shelves ≡ Some found). absurd (none-some found (sym (ap (find (is_shelf k s)) empty) ∙ old)))
      (λ (last : (n ≡ name) × (k ≡ shelf.kind) × (s ≡ shelf.stamp) × (shelf ≡ found)). inr last)
      (snoc_found n k s row.shelves found same one)

  back_found : (n : List ℕ) (k s : ℕ) (found : KnownShelf C) (ls : List (Line C)) → row.shelves ≡ [] → AreApart (names ls) → find_shelf n k s (with_room ls ++ new_line ∷ []) ≡ Some found
      → (find_shelf n k s ls ≡ Some found) ⊎ ((n ≡ name) × (k ≡ shelf.kind) × (s ≡ shelf.stamp) × (shelf ≡ found))
  back_found n k s found ls empty apart is =
      let at = then_some (λ (l : Line C). find (is_shelf k s) l.row.shelves) (find (is_named n) (with_room ls ++ new_line ∷ [])) found is in
      back_case n k s found ls at.0 empty apart at.2 (find_snoc (is_named n) (with_room ls) new_line at.0 at.1)

  pub kept_found : (n : List ℕ) (k s : ℕ) (found : KnownShelf C) (ls : List (Line C)) → row.shelves ≡ [] → AreApart (names ls) → find_shelf n k s (kept name row shelf ls) ≡ Some found
      → (find_shelf n k s ls ≡ Some found) ⊎ ((n ≡ name) × (k ≡ shelf.kind) × (s ≡ shelf.stamp) × (shelf ≡ found))
  kept_found n k s found ls empty apart is = either (has_row name (map row_of ls)) is where
    either : (there : Bool) → find_shelf n k s (if there then at_name name (row_longer shelf) ls else with_room ls ++ new_line ∷ []) ≡ Some found → (find_shelf n k s ls ≡ Some found) ⊎ ((n ≡ name) × (k ≡ shelf.kind) × (s ≡ shelf.stamp) × (shelf ≡ found))
    either true at = there_case n k s found ls (same_name n name) refl at
    either false at = back_found n k s found ls empty apart at

  -- A value that is found stood there before, or is the new one. And the replay's rows.
  map_snoc : (ss : List (KnownShelf C)) → map keyed (ss ++ shelf ∷ []) ≡ map keyed ss ++ keyed shelf ∷ []
  map_snoc [] = refl
  map_snoc (t ∷ ts) = ap (λ ks. keyed t ∷ ks) (map_snoc ts)

  abbrev rows_with : List (Line C) → List Row
  rows_with ls = change_first (λ (r : Row). same_name r.name name) (with_key (key_with shelf.kind name shelf.stamp)) (map row_of ls)

  rows_case : (l : Line C) (ls : List (Line C)) (here : Bool) → map row_of (at_name name (row_longer shelf) ls) ≡ rows_with ls
      → map row_of (if here then longer l ∷ ls else l ∷ at_name name (row_longer shelf) ls) ≡ (if here then with_key (key_with shelf.kind name shelf.stamp) (row_of l) ∷ map row_of ls else row_of l ∷ rows_with ls)
  rows_case l ls true later = ap (λ ks. record { name = l.name; keys = ks } ∷ map row_of ls) (map_snoc l.row.shelves)
  rows_case l ls false later = ap (λ rs. row_of l ∷ rs) later

  there_rows : (ls : List (Line C)) → map row_of (at_name name (row_longer shelf) ls) ≡ rows_with ls
  there_rows [] = refl
  there_rows (l ∷ ls) = rows_case l ls (is_named name l) (there_rows ls)

  map_room : (ls : List (Line C)) (full : Bool) → map row_of (if full then drop 1 ls else ls) ≡ (if full then drop 1 (map row_of ls) else map row_of ls)
  map_room ls false = refl
  map_room [] true = refl
  map_room (l ∷ ls) true = refl

  map_last : (ls : List (Line C)) (l : Line C) → map row_of (ls ++ l ∷ []) ≡ map row_of ls ++ row_of l ∷ []
  map_last [] l = refl
  map_last (m ∷ ls) l = ap (λ rs. row_of m ∷ rs) (map_last ls l)

  length-rows : (ls : List (Line C)) → length (map row_of ls) ≡ length ls
  length-rows [] = refl
  length-rows (l ∷ ls) = ap (λ n. suc n) (length-rows ls)

  room_rows : (ls : List (Line C)) → map row_of (with_room ls) ≡ with_room (map row_of ls)
  room_rows ls = map_room ls (nat_le 32 (length ls)) ∙ ap (λ n. if nat_le 32 n then drop 1 (map row_of ls) else map row_of ls) (sym (length-rows ls))

  back_rows : (ls : List (Line C)) → row.shelves ≡ [] → map row_of (with_room ls ++ new_line ∷ []) ≡ with_room (map row_of ls) ++ record { name = name; keys = (shelf.kind, shelf.stamp) ∷ [] } ∷ []
  back_rows ls empty =
      map_last (with_room ls) new_line
      ∙ ap₂ (λ rs ss. rs ++ record { name = name; keys = map keyed (ss ++ shelf ∷ []) } ∷ []) (room_rows ls) empty

  pub kept_rows : (ls : List (Line C)) → row.shelves ≡ [] → map row_of (kept name row shelf ls) ≡ stored (key_with shelf.kind name shelf.stamp) (map row_of ls)
  kept_rows ls empty = either (has_row name (map row_of ls)) where
    either : (there : Bool) → map row_of (if there then at_name name (row_longer shelf) ls else with_room ls ++ new_line ∷ [])
        ≡ (if there then rows_with ls else with_room (map row_of ls) ++ record { name = name; keys = (shelf.kind, shelf.stamp) ∷ [] } ∷ [])
    either true = there_rows ls
    either false = back_rows ls empty

  -- the names stay apart
  pub any_row : (ls : List (Line C)) → has_row name (map row_of ls) ≡ list_any (λ m. same_name m name) (names ls)
  any_row [] = refl
  any_row (l ∷ ls) = ap (λ b. same_name l.name name || b) (any_row ls)

  names_room : (ls : List (Line C)) (full : Bool) → names (if full then drop 1 ls else ls) ≡ (if full then drop 1 (names ls) else names ls)
  names_room ls false = refl
  names_room [] true = refl
  names_room (l ∷ ls) true = refl

  names_last : (ls : List (Line C)) (l : Line C) → names (ls ++ l ∷ []) ≡ names ls ++ l.name ∷ []
  names_last [] l = refl
  names_last (m ∷ ls) l = ap (λ ns. m.name ∷ ns) (names_last ls l)

  apart_drop : (ns : List (List ℕ)) (full : Bool) → AreApart ns → list_any (λ m. same_name m name) ns ≡ false → AreApart (if full then drop 1 ns else ns) × (list_any (λ m. same_name m name) (if full then drop 1 ns else ns) ≡ false)
  apart_drop ns false apart none = (apart, none)
  apart_drop [] true apart none = (apart, none)
  apart_drop (n ∷ ns) true apart none = (apart.1, (or_parts (same_name n name) (list_any (λ m. same_name m name) ns) none).1)

  any_last : (n : List ℕ) (ns : List (List ℕ)) → list_any (λ m. same_name m n) ns ≡ false → same_name name n ≡ false → list_any (λ m. same_name m n) (ns ++ name ∷ []) ≡ false
  any_last n [] none apart = ap (λ b. b || false) apart
  any_last n (m ∷ ms) none apart = let both = or_parts (same_name m n) (list_any (λ x. same_name x n) ms) none in ap₂ (λ a b. a || b) both.0 (any_last n ms both.1 apart)

  pub apart_last : (ns : List (List ℕ)) → AreApart ns → list_any (λ m. same_name m name) ns ≡ false → AreApart (ns ++ name ∷ [])
  apart_last [] apart none = (refl, tt)
  apart_last (n ∷ ns) apart none =
      let both = or_parts (same_name n name) (list_any (λ m. same_name m name) ns) none in
      (any_last n ns apart.0 (turned name n ∙ both.0), apart_last ns apart.1 both.1)

  pub kept_apart : (ls : List (Line C)) → AreApart (names ls) → AreApart (names (kept name row shelf ls))
  kept_apart ls apart = either (has_row name (map row_of ls)) refl where
    either : (there : Bool) → has_row name (map row_of ls) ≡ there → AreApart (names (if there then at_name name (row_longer shelf) ls else with_room ls ++ new_line ∷ []))
    either true is = subst (λ ns. AreApart ns) (sym (names_stay (row_longer shelf) name ls)) apart
    either false is =
        let rest = apart_drop (names ls) (nat_le 32 (length ls)) apart (sym (any_row ls) ∙ is) in
        subst (λ ns. AreApart ns) (sym (names_last (with_room ls) new_line ∙ ap (λ ns. ns ++ name ∷ []) (names_room ls (nat_le 32 (length ls)))))
        (apart_last (if nat_le 32 (length ls) then drop 1 (names ls) else names ls) rest.0 rest.1)

  -- the places stay
  abbrev Shaped : ℕ → ℕ → Line C → Type 0
  Shaped room wide l = (room ≤ l.row.room) × All (λ (s : KnownShelf C). length s.copies ≡ wide) l.row.shelves

  all_room : (P : Line C → Type 0) (ls : List (Line C)) (full : Bool) → All P ls → All P (if full then drop 1 ls else ls)
  all_room P ls false all = all
  all_room P [] true all = all
  all_room P (l ∷ ls) true all = All-tail P l ls all

  shape_case : (room wide : ℕ) (l : Line C) (ls : List (Line C)) (here : Bool) → length shelf.copies ≡ wide → Shaped room wide l → All (Shaped room wide) ls → All (Shaped room wide) (at_name name (row_longer shelf) ls) → All (Shaped room wide) (if here then longer l ∷ ls else l ∷ at_name name (row_longer shelf) ls)
  shape_case room wide l ls true fits first rest later =
      All-cons (Shaped room wide) (longer l) ls
      (first.0, All-append (λ (s : KnownShelf C). length s.copies ≡ wide) l.row.shelves (shelf ∷ []) first.1 (All-cons (λ (s : KnownShelf C). length s.copies ≡ wide) shelf [] fits (All-nil (λ (s : KnownShelf C). length s.copies ≡ wide)))) rest
  shape_case room wide l ls false fits first rest later = All-cons (Shaped room wide) l (at_name name (row_longer shelf) ls) first later

  shapes_there : (room wide : ℕ) (ls : List (Line C)) → length shelf.copies ≡ wide → All (Shaped room wide) ls → All (Shaped room wide) (at_name name (row_longer shelf) ls)
  shapes_there room wide [] fits all = all
  shapes_there room wide (l ∷ ls) fits all =
      shape_case room wide l ls (is_named name l) fits (All-head (Shaped room wide) l ls all) (All-tail (Shaped room wide) l ls all) (shapes_there room wide ls fits (All-tail (Shaped room wide) l ls all))

  pub kept_shapes : (room wide : ℕ) (ls : List (Line C)) → length shelf.copies ≡ wide → room ≤ row.room → row.shelves ≡ [] → All (Shaped room wide) ls → All (Shaped room wide) (kept name row shelf ls)
  kept_shapes room wide ls fits roomy empty all = either (has_row name (map row_of ls)) where
    last_shape : All (λ (s : KnownShelf C). length s.copies ≡ wide) (row.shelves ++ shelf ∷ [])
    last_shape = subst (λ ss. All (λ (s : KnownShelf C). length s.copies ≡ wide) (ss ++ shelf ∷ [])) (sym empty) (All-cons (λ (s : KnownShelf C). length s.copies ≡ wide) shelf [] fits (All-nil (λ (s : KnownShelf C). length s.copies ≡ wide)))

    either : (there : Bool) → All (Shaped room wide) (if there then at_name name (row_longer shelf) ls else with_room ls ++ new_line ∷ [])
    either true = shapes_there room wide ls fits all
    either false = All-append (Shaped room wide) (with_room ls) (new_line ∷ []) (all_room (Shaped room wide) ls (nat_le 32 (length ls)) all) (All-cons (Shaped room wide) new_line [] (roomy, last_shape) (All-nil (Shaped room wide)))
