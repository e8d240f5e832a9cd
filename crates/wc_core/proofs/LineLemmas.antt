-- The rows of the store as entries of a map.
use Rattle.std.proofs.Common.{ℕ, zero, suc, ◌≡◌, ◌<◌, ◌==◌, ◌&&◌, ◌||◌, Bool, true, false, cond, nat_eq, if◌then◌else◌, inl, inr, ⊎_elim, List, [], ◌∷◌, Option, None, Some, is_some, map, length, refl, sym, ap, ap₂, subst, ◌∙◌, arith}
use Rattle.std.specs.Cmp.Lexicographic.{pointwise}
use Rattle.std.specs.Global.{Global}
use Rattle.std.specs.List.{All, find, list_any}
use Rattle.std.specs.Map.{lookup, set_value}
use Rattle.std.specs.Option.{option_and_then}
use Rattle.std.specs.declared.vec.Vec.{Vec}
use Rattle.std.proofs.lemmas.Bool.{and_parts, cases_Bool, eq-eqb, eqb-true, false≢true, false_from_ne_true, or_parts, true≢false}
use Rattle.std.proofs.lemmas.List.Elements.{All-head, All-tail}
use Rattle.std.proofs.lemmas.Option.{none-some, same_Some}
use Rattle.wc_core.proofs.TestLemmas.{or_false}
use Rattle.wc_model.specs.Workspace.Firsts.{change_first}
use Rattle.wc_model.specs.Workspace.History.{key_with}
use Rattle.wc_model.specs.Workspace.States.{has_key, has_row, in_store, same_name}
use Rattle.wc_core.specs.Inner.Lines.{AreApart, HasPlace, Line, at_name, copy_for, is_named, lines_of, names, row_of}
use Rattle.wc_core.specs.Inner.Shelves.{KnownRow, KnownShelf, find_copy, is_shelf}

-- names

pub equal_turned : (a b : ℕ) → nat_eq a b ≡ nat_eq b a
equal_turned a b =
    ⊎_elim (λ (same : nat_eq a b ≡ true). same ∙ sym (eq-eqb b a (sym (eqb-true a b same))))
    (λ (apart : nat_eq a b ≡ false). apart ∙ sym (false_from_ne_true (nat_eq b a) (λ same. false≢true (sym apart ∙ eq-eqb a b (sym (eqb-true b a same))))))
    (cases_Bool (nat_eq a b))

pub turned : (a b : List ℕ) → pointwise nat_eq a b ≡ pointwise nat_eq b a
turned [] [] = refl
turned [] (y ∷ b) = refl
turned (x ∷ a) [] = refl
turned (x ∷ a) (y ∷ b) = ap₂ (λ c d. c && d) (equal_turned x y) (turned a b)

pub name_is : (a b : List ℕ) → pointwise nat_eq a b ≡ true → a ≡ b
name_is [] [] same = refl
name_is [] (y ∷ b) same = absurd (false≢true same)
name_is (x ∷ a) [] same = absurd (false≢true same)
name_is (x ∷ a) (y ∷ b) same = let parts : (nat_eq x y ≡ true) × (pointwise nat_eq a b ≡ true) = and_parts (nat_eq x y) (pointwise nat_eq a b) same in ap₂ (λ c d. c ∷ d) (eqb-true x y parts.0) (name_is a b parts.1)

abbrev pub Entry : Type 0 → Type 0
Entry C = Vec ℕ Global × KnownRow C

abbrev pub test : List ℕ → Vec ℕ Global → Bool
test name k = pointwise nat_eq name k.items

module _ {C : Type 0} (name : List ℕ) where
  named : (e : Entry C) → test name e.0 ≡ same_name (e.0).items name
  named e = turned name (e.0).items

  -- what is read of the name's row
  read_case : {D : Type 0} (read : KnownRow C → Option D) (e : Entry C) (es : List (Entry C)) (here : Bool) → option_and_then (λ l. read l.row) (find (is_named name) (lines_of es)) ≡ option_and_then read (lookup (test name) es) → option_and_then (λ (l : Line C). read l.row) (cond here (Some (record { name = (e.0).items; row = e.1 })) (find (is_named name) (lines_of es))) ≡ option_and_then read (cond here (Some e.1) (lookup (test name) es))
  read_case read e es true later = refl
  read_case read e es false later = later

  pub read_is : {D : Type 0} (read : KnownRow C → Option D) (es : List (Entry C)) → option_and_then (λ l. read l.row) (find (is_named name) (lines_of es)) ≡ option_and_then read (lookup (test name) es)
  read_is read [] = refl
  read_is {D} read (e ∷ es) = ap (λ (b : Bool). option_and_then (λ (l : Line C). read l.row) (cond b (Some (record { name = (e.0).items; row = e.1 })) (find (is_named name) (lines_of es)))) (sym (named e)) ∙ read_case read e es (test name e.0) (read_is read es)

  -- the name's row changes
  change_case : (change : KnownRow C → KnownRow C) (e : Entry C) (es : List (Entry C)) (here : Bool) (row : KnownRow C) → cond here (Some e.1) (lookup (test name) es) ≡ Some row → (lookup (test name) es ≡ Some row → lines_of (set_value (test name) es (change row)) ≡ at_name name change (lines_of es)) → lines_of (cond here ((e.0, change row) ∷ es) (e ∷ set_value (test name) es (change row))) ≡ (if here then record { name = (e.0).items; row = change e.1 } ∷ lines_of es else record { name = (e.0).items; row = e.1 } ∷ at_name name change (lines_of es))
  change_case change e es true row is later = ap (λ (r : KnownRow C). record { name = (e.0).items; row = change r } ∷ lines_of es) (sym (same_Some e.1 row is))
  change_case change e es false row is later = ap (λ (ls : List (Line C)). record { name = (e.0).items; row = e.1 } ∷ ls) (later is)

  pub changed_is : (change : KnownRow C → KnownRow C) (es : List (Entry C)) (row : KnownRow C) → lookup (test name) es ≡ Some row → lines_of (set_value (test name) es (change row)) ≡ at_name name change (lines_of es)
  changed_is change [] row is = absurd (none-some row is)
  changed_is change (e ∷ es) row is = change_case change e es (test name e.0) row is (λ later. changed_is change es row later) ∙ ap (λ (b : Bool). if b then record { name = (e.0).items; row = change e.1 } ∷ lines_of es else record { name = (e.0).items; row = e.1 } ∷ at_name name change (lines_of es)) (named e)

  same_case : (change : KnownRow C → KnownRow C) (e : Entry C) (es : List (Entry C)) (here : Bool) → cond here (Some e.1) (lookup (test name) es) ≡ None → (lookup (test name) es ≡ None → lines_of es ≡ at_name name change (lines_of es)) → record { name = (e.0).items; row = e.1 } ∷ lines_of es ≡ (if here then record { name = (e.0).items; row = change e.1 } ∷ lines_of es else record { name = (e.0).items; row = e.1 } ∷ at_name name change (lines_of es))
  same_case change e es true is later = absurd (none-some e.1 (sym is))
  same_case change e es false is later = ap (λ (ls : List (Line C)). record { name = (e.0).items; row = e.1 } ∷ ls) (later is)

  pub unchanged_is : (change : KnownRow C → KnownRow C) (es : List (Entry C)) → lookup (test name) es ≡ None → lines_of es ≡ at_name name change (lines_of es)
  unchanged_is change [] is = refl
  unchanged_is change (e ∷ es) is = same_case change e es (test name e.0) is (λ later. unchanged_is change es later) ∙ ap (λ (b : Bool). if b then record { name = (e.0).items; row = change e.1 } ∷ lines_of es else record { name = (e.0).items; row = e.1 } ∷ at_name name change (lines_of es)) (named e)

  -- what holds of each row holds of the name's
  has_case : (P : KnownRow C → Type 0) (e : Entry C) (es : List (Entry C)) (row : KnownRow C) (here : Bool) → cond here (Some e.1) (lookup (test name) es) ≡ Some row → P e.1 → (lookup (test name) es ≡ Some row → P row) → P row
  has_case P e es row true found first later = subst P (same_Some e.1 row found) first
  has_case P e es row false found first later = later found

  pub row_has : (P : KnownRow C → Type 0) (es : List (Entry C)) (row : KnownRow C) → lookup (test name) es ≡ Some row → All (λ (l : Line C). P l.row) (lines_of es) → P row
  row_has P [] row is all = absurd (none-some row is)
  row_has P (e ∷ es) row is all =
      has_case P e es row (test name e.0) is (All-head (λ (l : Line C). P l.row) (record { name = (e.0).items; row = e.1 }) (lines_of es) all)
      (λ found. row_has P es row found (All-tail (λ (l : Line C). P l.row) (record { name = (e.0).items; row = e.1 }) (lines_of es) all))

  place_case : (e : Entry C) (row : KnownRow C) (here : Bool) (found : Option (KnownRow C)) → test name e.0 ≡ here → cond here (Some e.1) found ≡ Some row → ((e.0).items ≡ name → length (e.1).shelves < (e.1).room) → (found ≡ Some row → length row.shelves < row.room) → length row.shelves < row.room
  place_case e row true found is at first later = subst (λ (r : KnownRow C). length r.shelves < r.room) (same_Some e.1 row at) (first (sym (name_is name (e.0).items is)))
  place_case e row false found is at first later = later at

  pub place_at : (es : List (Entry C)) (row : KnownRow C) → lookup (test name) es ≡ Some row → HasPlace name (lines_of es) → length row.shelves < row.room
  place_at [] row is all = absurd (none-some row is)
  place_at (e ∷ es) row is all =
      let P : Line C → Type 0 = λ l. l.name ≡ name → length l.row.shelves < l.row.room in
      place_case e row (test name e.0) (lookup (test name) es) refl is (All-head P (record { name = (e.0).items; row = e.1 }) (lines_of es) all) (λ later. place_at es row later (All-tail P (record { name = (e.0).items; row = e.1 }) (lines_of es) all))

  -- whether there is such a row
  there_case : (e : Entry C) (es : List (Entry C)) (here : Bool) → has_row name (map row_of (lines_of es)) ≡ is_some (lookup (test name) es) → (here || has_row name (map row_of (lines_of es))) ≡ is_some (cond here (Some e.1) (lookup (test name) es))
  there_case e es true later = refl
  there_case e es false later = later

  pub row_there : (es : List (Entry C)) → has_row name (map row_of (lines_of es)) ≡ is_some (lookup (test name) es)
  row_there [] = refl
  row_there (e ∷ es) = ap (λ b. b || has_row name (map row_of (lines_of es))) (sym (named e)) ∙ there_case e es (test name e.0) (row_there es)

-- the names stay
names_case : {C : Type 0} (change : KnownRow C → KnownRow C) (name : List ℕ) (l : Line C) (ls : List (Line C)) (here : Bool) → names (at_name name change ls) ≡ names ls → names (if here then record l { row = change l.row } ∷ ls else l ∷ at_name name change ls) ≡ l.name ∷ names ls
names_case change name l ls true later = refl
names_case change name l ls false later = ap (λ ns. l.name ∷ ns) later

pub names_stay : {C : Type 0} (change : KnownRow C → KnownRow C) (name : List ℕ) (ls : List (Line C)) → names (at_name name change ls) ≡ names ls
names_stay change name [] = refl
names_stay change name (l ∷ ls) = names_case change name l ls (is_named name l) (names_stay change name ls)

-- whether a key stands in the store
pub keys_have : {C : Type 0} (kind stamp : ℕ) (shelves : List (KnownShelf C)) → has_key kind stamp (map (λ s. (s.kind, s.stamp)) shelves) ≡ list_any (is_shelf kind stamp) shelves
keys_have kind stamp [] = refl
keys_have kind stamp (s ∷ ss) = ap (λ b. (s.kind == kind && s.stamp == stamp) || b) (keys_have kind stamp ss)

pub none_stored : {C : Type 0} (kind : ℕ) (name : List ℕ) (stamp : ℕ) (ls : List (Line C)) → list_any (λ m. same_name m name) (names ls) ≡ false → in_store (key_with kind name stamp) (map row_of ls) ≡ false
none_stored kind name stamp [] absent = refl
none_stored kind name stamp (l ∷ ls) absent =
    let parts : (same_name l.name name ≡ false) × (list_any (λ m. same_name m name) (names ls) ≡ false) = or_parts (same_name l.name name) (list_any (λ m. same_name m name) (names ls)) absent in
    ap₂ (λ a b. (a && has_key kind stamp (row_of l).keys) || b) parts.0 (none_stored kind name stamp ls parts.1)

module _ {C : Type 0} (kind : ℕ) (name : List ℕ) (stamp : ℕ) where
  abbrev stored_in : List (Line C) → Bool
  stored_in ls = in_store (key_with kind name stamp) (map row_of ls)

  stored_here : (e : Entry C) (es : List (Entry C)) → test name e.0 ≡ true → AreApart (names (lines_of (e ∷ es))) → stored_in (lines_of (e ∷ es)) ≡ list_any (is_shelf kind stamp) (e.1).shelves
  stored_here e es here apart =
      let same : name ≡ (e.0).items = name_is name (e.0).items here in
      let rest : stored_in (lines_of es) ≡ false = none_stored kind name stamp (lines_of es) (ap (λ n. list_any (λ m. same_name m n) (names (lines_of es))) same ∙ apart.0) in
      ap₂ (λ a b. (a && has_key kind stamp (map (λ s. (s.kind, s.stamp)) (e.1).shelves)) || b) (sym (named name e) ∙ here) rest
      ∙ or_false (has_key kind stamp (map (λ s. (s.kind, s.stamp)) (e.1).shelves)) ∙ keys_have kind stamp (e.1).shelves

  stored_later : (e : Entry C) (es : List (Entry C)) → test name e.0 ≡ false → stored_in (lines_of (e ∷ es)) ≡ stored_in (lines_of es)
  stored_later e es not_here = ap (λ a. (a && has_key kind stamp (map (λ s. (s.kind, s.stamp)) (e.1).shelves)) || stored_in (lines_of es)) (sym (named name e) ∙ not_here)

  some_case : (e : Entry C) (es : List (Entry C)) (row : KnownRow C) (here : Bool) → test name e.0 ≡ here → AreApart (names (lines_of (e ∷ es))) → cond here (Some e.1) (lookup (test name) es) ≡ Some row → (lookup (test name) es ≡ Some row → stored_in (lines_of es) ≡ list_any (is_shelf kind stamp) row.shelves) → stored_in (lines_of (e ∷ es)) ≡ list_any (is_shelf kind stamp) row.shelves
  some_case e es row true here apart found later = stored_here e es here apart ∙ ap (λ (r : KnownRow C). list_any (is_shelf kind stamp) r.shelves) (same_Some e.1 row found)
  some_case e es row false not_here apart found later = stored_later e es not_here ∙ later found

  pub stored_some : (es : List (Entry C)) (row : KnownRow C) → lookup (test name) es ≡ Some row → AreApart (names (lines_of es)) → stored_in (lines_of es) ≡ list_any (is_shelf kind stamp) row.shelves
  stored_some [] row is apart = absurd (none-some row is)
  stored_some (e ∷ es) row is apart = some_case e es row (test name e.0) refl apart is (λ found. stored_some es row found apart.1)

  none_case : (e : Entry C) (es : List (Entry C)) (here : Bool) → test name e.0 ≡ here → cond here (Some e.1) (lookup (test name) es) ≡ None → (lookup (test name) es ≡ None → stored_in (lines_of es) ≡ false) → stored_in (lines_of (e ∷ es)) ≡ false
  none_case e es true here found later = absurd (none-some e.1 (sym found))
  none_case e es false not_here found later = stored_later e es not_here ∙ later found

  pub stored_none : (es : List (Entry C)) → lookup (test name) es ≡ None → stored_in (lines_of es) ≡ false
  stored_none [] is = refl
  stored_none (e ∷ es) is = none_case e es (test name e.0) refl is (λ found. stored_none es found)
