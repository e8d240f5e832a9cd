-- What stands under a key of the store.
use Rattle.std.proofs.Common.{ℕ, zero, suc, ◌≡◌, ◌≢◌, ◌+◌, ◌<◌, ◌≤◌, ◌⊎◌, ◌==◌, ◌&&◌, ◌||◌, Bool, true, false, cond, not, nat_eq, if◌then◌else◌, inl, inr, ⊎_elim, List, [], ◌∷◌, ◌++◌, Option, None, Some, IsSome, is_some, is_none, map, length, set, get_or, refl, sym, ap, ap₂, subst, ◌∙◌, arith}
use Rattle.std.specs.List.{All, find, filter, list_any}
use Rattle.std.specs.Option.{option_and_then, option_map}
use Rattle.std.proofs.lemmas.Bool.{and_parts, cases_Bool, eq-eqb, eqb-true, false≢true, or_parts, true≢false}
use Rattle.std.proofs.lemmas.List.{get_or-set_same, get_or-set_other}
use Rattle.std.proofs.lemmas.List.Elements.{All-cons, All-head, All-tail, All-nil}
use Rattle.std.proofs.lemmas.Option.{none-some, same_Some}
use Rattle.wc_model.specs.Workspace.Firsts.{change_first}
use Rattle.wc_model.specs.Workspace.History.{key_with}
use Rattle.wc_model.specs.Workspace.States.{has_key, in_store, same_name}
use Rattle.wc_core.specs.Inner.Lines.{AllWide, AreApart, Line, at_name, copy_for, is_named, names, row_of}
use Rattle.wc_core.specs.Inner.Shelves.{KnownRow, KnownShelf, copy_of, find_copy, is_shelf, shelf_filled, shelf_taken}
use Rattle.wc_core.proofs.FindLemmas.{any_found, find_changed, find_other, found_passes}
use Rattle.wc_core.proofs.TestLemmas.{or_false}
use Rattle.wc_core.proofs.LineLemmas.{equal_turned, keys_have, name_is, none_stored, turned}

-- the value under a key
abbrev pub find_shelf : {C : Type 0} → List ℕ → ℕ → ℕ → List (Line C) → Option (KnownShelf C)
find_shelf name kind stamp lines = option_and_then (λ l. find (is_shelf kind stamp) l.row.shelves) (find (is_named name) lines)

module _ {C : Type 0} (name : List ℕ) (kind stamp : ℕ) where
  copy_case : (session : ℕ) (o : Option (Line C)) → option_and_then (λ l. find_copy kind stamp session l.row.shelves) o ≡ option_and_then (copy_of session) (option_and_then (λ l. find (is_shelf kind stamp) l.row.shelves) o)
  copy_case session None = refl
  copy_case session (Some l) = refl

  pub copy_is : (session : ℕ) (lines : List (Line C)) → copy_for name kind stamp session lines ≡ option_and_then (copy_of session) (find_shelf name kind stamp lines)
  copy_is session lines = copy_case session (find (is_named name) lines)

  stored_case : (l : Line C) (ls : List (Line C)) (here : Bool) → is_named name l ≡ here → AreApart (names (l ∷ ls)) → in_store (key_with kind name stamp) (map row_of ls) ≡ is_some (find_shelf name kind stamp ls)
      → (here && has_key kind stamp (row_of l).keys || in_store (key_with kind name stamp) (map row_of ls)) ≡ is_some (option_and_then (λ (m : Line C). find (is_shelf kind stamp) m.row.shelves) (cond here (Some l) (find (is_named name) ls)))
  stored_case l ls true is apart later =
      let none : in_store (key_with kind name stamp) (map row_of ls) ≡ false = none_stored kind name stamp ls (ap (λ n. list_any (λ m. same_name m n) (names ls)) (sym (name_is l.name name is)) ∙ apart.0) in
      ap (λ b. has_key kind stamp (row_of l).keys || b) none ∙ or_false (has_key kind stamp (row_of l).keys) ∙ keys_have kind stamp l.row.shelves ∙ any_found (is_shelf kind stamp) l.row.shelves
  stored_case l ls false is apart later = later

  pub stored_is : (lines : List (Line C)) → AreApart (names lines) → in_store (key_with kind name stamp) (map row_of lines) ≡ is_some (find_shelf name kind stamp lines)
  stored_is [] apart = refl
  stored_is (l ∷ ls) apart = stored_case l ls (is_named name l) refl apart (stored_is ls apart.1)

-- A value changes in its place, for one session.
pub record Keeps {C : Type 0} (session : ℕ) (g : KnownShelf C → KnownShelf C) : Type 0 where
  pub kind : (s : KnownShelf C) → (g s).kind ≡ s.kind
  pub stamp : (s : KnownShelf C) → (g s).stamp ≡ s.stamp
  pub wide : (s : KnownShelf C) → length (g s).copies ≡ length s.copies
  pub other : (y : ℕ) (s : KnownShelf C) → y ≢ session → copy_of y (g s) ≡ copy_of y s

length-set : {A : Type 0} (xs : List A) (i : ℕ) (a : A) → length (set xs i a) ≡ length xs
length-set [] i a = refl
length-set (x ∷ xs) zero a = refl
length-set (x ∷ xs) (suc i) a = ap (λ n. suc n) (length-set xs i a)

pub keeps_taken : {C : Type 0} (session : ℕ) → Keeps {C = C} session (shelf_taken session)
keeps_taken session = record { kind = λ s. refl; stamp = λ s. refl; wide = λ s. length-set s.copies session None; other = λ y s apart. get_or-set_other s.copies session y None None apart }

filled_if : {C : Type 0} → ℕ → C → Bool → KnownShelf C → KnownShelf C
filled_if session copy empty s = if empty then record s { copies = set s.copies session (Some copy) } else s

filled_keeps : {C : Type 0} (session : ℕ) (copy : C) (empty : Bool) (s : KnownShelf C) → ((filled_if session copy empty s).kind ≡ s.kind) × ((filled_if session copy empty s).stamp ≡ s.stamp) × (length (filled_if session copy empty s).copies ≡ length s.copies) × ((y : ℕ) → y ≢ session → copy_of y (filled_if session copy empty s) ≡ copy_of y s)
unfolding filled_if
filled_keeps session copy true s = (refl, refl, length-set s.copies session (Some copy), λ y apart. get_or-set_other s.copies session y (Some copy) None apart)
filled_keeps session copy false s = (refl, refl, refl, λ y apart. refl)

pub keeps_filled : {C : Type 0} (session : ℕ) (copy : C) → Keeps {C = C} session (shelf_filled session copy)
unfolding filled_if
keeps_filled session copy =
    record {
      kind = λ s. (filled_keeps session copy (is_none (copy_of session s)) s).0;
      stamp = λ s. (filled_keeps session copy (is_none (copy_of session s)) s).1;
      wide = λ s. (filled_keeps session copy (is_none (copy_of session s)) s).2;
      other = λ y s apart. (filled_keeps session copy (is_none (copy_of session s)) s).3 y apart;
    }

abbrev pub row_changed : {C : Type 0} → ℕ → ℕ → (KnownShelf C → KnownShelf C) → KnownRow C → KnownRow C
row_changed kind stamp g row = record row { shelves = change_first (is_shelf kind stamp) g row.shelves }

abbrev pub lines_changed : {C : Type 0} → List ℕ → ℕ → ℕ → (KnownShelf C → KnownShelf C) → List (Line C) → List (Line C)
lines_changed name kind stamp g lines = at_name name (row_changed kind stamp g) lines

abbrev pub keyed : {C : Type 0} → KnownShelf C → ℕ × ℕ
keyed s = (s.kind, s.stamp)

abbrev line_changed : {C : Type 0} → ℕ → ℕ → (KnownShelf C → KnownShelf C) → Line C → Line C
line_changed kind stamp g l = record l { row = row_changed kind stamp g l.row }

module _ {C : Type 0} (session : ℕ) (g : KnownShelf C → KnownShelf C) (keeps : Keeps session g) where
  shelf_same : (kind stamp : ℕ) (s : KnownShelf C) → is_shelf kind stamp (g s) ≡ is_shelf kind stamp s
  shelf_same kind stamp s = ap₂ (λ k n. k == kind && n == stamp) (keeps.kind s) (keeps.stamp s)

  -- the keys stay
  keys_case : (kind stamp : ℕ) (s : KnownShelf C) (ss : List (KnownShelf C)) (here : Bool) → map keyed (change_first (is_shelf kind stamp) g ss) ≡ map keyed ss → map keyed (if here then g s ∷ ss else s ∷ change_first (is_shelf kind stamp) g ss) ≡ keyed s ∷ map keyed ss
  keys_case kind stamp s ss true later = ap₂ (λ (k n : ℕ). (k, n) ∷ map keyed ss) (keeps.kind s) (keeps.stamp s)
  keys_case kind stamp s ss false later = ap (λ ks. keyed s ∷ ks) later

  keys_stay : (kind stamp : ℕ) (ss : List (KnownShelf C)) → map keyed (change_first (is_shelf kind stamp) g ss) ≡ map keyed ss
  keys_stay kind stamp [] = refl
  keys_stay kind stamp (s ∷ ss) = keys_case kind stamp s ss (is_shelf kind stamp s) (keys_stay kind stamp ss)

  rows_case : (name : List ℕ) (kind stamp : ℕ) (l : Line C) (ls : List (Line C)) (here : Bool) → map row_of (lines_changed name kind stamp g ls) ≡ map row_of ls → map row_of (if here then record l { row = row_changed kind stamp g l.row } ∷ ls else l ∷ lines_changed name kind stamp g ls) ≡ row_of l ∷ map row_of ls
  rows_case name kind stamp l ls true later = ap (λ ks. record { name = l.name; keys = ks } ∷ map row_of ls) (keys_stay kind stamp l.row.shelves)
  rows_case name kind stamp l ls false later = ap (λ rs. row_of l ∷ rs) later

  pub rows_stay : (name : List ℕ) (kind stamp : ℕ) (ls : List (Line C)) → map row_of (lines_changed name kind stamp g ls) ≡ map row_of ls
  rows_stay name kind stamp [] = refl
  rows_stay name kind stamp (l ∷ ls) = rows_case name kind stamp l ls (is_named name l) (rows_stay name kind stamp ls)

  -- the places stay
  changed_case : {A : Type 0} (P : A → Type 0) (test : A → Bool) (f : A → A) (a : A) (xs : List A) (here : Bool) → P a → P (f a) → All P xs → All P (change_first test f xs) → All P (if here then f a ∷ xs else a ∷ change_first test f xs)
  changed_case P test f a xs true was is rest later = All-cons P (f a) xs is rest
  changed_case P test f a xs false was is rest later = All-cons P a (change_first test f xs) was later

  changed_all : {A : Type 0} (P : A → Type 0) (test : A → Bool) (f : A → A) → ((a : A) → P a → P (f a)) → (xs : List A) → All P xs → All P (change_first test f xs)
  changed_all P test f stays [] all = all
  changed_all P test f stays (a ∷ xs) all =
      let was = All-head P a xs all in
      let rest = All-tail P a xs all in
      changed_case P test f a xs (test a) was (stays a was) rest (changed_all P test f stays xs rest)

  abbrev Shaped : ℕ → ℕ → Line C → Type 0
  Shaped room wide l = (room ≤ l.row.room) × All (λ (s : KnownShelf C). length s.copies ≡ wide) l.row.shelves

  pub wide_stays : (y : ℕ) (name : List ℕ) (kind stamp : ℕ) (ls : List (Line C)) → AllWide y ls → AllWide y (lines_changed name kind stamp g ls)
  wide_stays y name kind stamp ls all =
      changed_all (λ (l : Line C). All (λ (s : KnownShelf C). y < length s.copies) l.row.shelves) (is_named name) (line_changed kind stamp g)
      (λ l p. changed_all (λ (s : KnownShelf C). y < length s.copies) (is_shelf kind stamp) g (λ s is. subst (λ n. y < n) (sym (keeps.wide s)) is) l.row.shelves p) ls all

  pub shapes_stay : (room wide : ℕ) (name : List ℕ) (kind stamp : ℕ) (ls : List (Line C)) → All (Shaped room wide) ls → All (Shaped room wide) (lines_changed name kind stamp g ls)
  shapes_stay room wide name kind stamp ls all =
      changed_all (Shaped room wide) (is_named name) (line_changed kind stamp g)
      (λ l p. (p.0, changed_all (λ (s : KnownShelf C). length s.copies ≡ wide) (is_shelf kind stamp) g (λ s is. keeps.wide s ∙ is) l.row.shelves p.1)) ls all

  -- other keys
  names_apart : (n name : List ℕ) → same_name n name ≡ false → (l : Line C) → is_named name l ≡ true → is_named n l ≡ false
  names_apart n name apart l is = sym (ap (λ m. same_name m n) (sym (name_is l.name name is))) ∙ turned name n ∙ apart

  shelves_apart : (k s kind stamp : ℕ) → (k == kind && s == stamp) ≡ false → (t : KnownShelf C) → is_shelf kind stamp t ≡ true → is_shelf k s t ≡ false
  shelves_apart k s kind stamp apart t is =
      let both = and_parts (t.kind == kind) (t.stamp == stamp) is in
      ap₂ (λ a b. a == k && b == s) (eqb-true t.kind kind both.0) (eqb-true t.stamp stamp both.1) ∙ ap₂ (λ a b. a && b) (equal_turned kind k) (equal_turned stamp s) ∙ apart

  pub found_other : (name : List ℕ) (kind stamp : ℕ) (n : List ℕ) (k s : ℕ) (ls : List (Line C)) → (n ≡ name → k ≡ kind → s ≡ stamp → ⊥) → find_shelf n k s (lines_changed name kind stamp g ls) ≡ find_shelf n k s ls
  found_other name kind stamp n k s ls apart = by_name (same_name n name) refl where
    by_key : (same : Bool) → (k == kind && s == stamp) ≡ same → n ≡ name → find_shelf n k s (lines_changed name kind stamp g ls) ≡ find_shelf n k s ls
    by_key true is same = let both = and_parts (k == kind) (s == stamp) is in absurd (apart same (eqb-true k kind both.0) (eqb-true s stamp both.1))
    by_key false is same = read_same (find (is_named n) ls) (ap (λ m. find (is_named n) (at_name m (row_changed kind stamp g) ls)) (sym same) ∙ find_changed (is_named n) (line_changed kind stamp g) (λ l. refl) ls) where
      read_same : (o : Option (Line C)) → find (is_named n) (lines_changed name kind stamp g ls) ≡ option_map (line_changed kind stamp g) o → find_shelf n k s (lines_changed name kind stamp g ls) ≡ option_and_then (λ l. find (is_shelf k s) l.row.shelves) o
      read_same None found = ap (option_and_then (λ (l : Line C). find (is_shelf k s) l.row.shelves)) found
      read_same (Some l) found = ap (option_and_then (λ (m : Line C). find (is_shelf k s) m.row.shelves)) found
          ∙ find_other (is_shelf k s) (is_shelf kind stamp) g (λ t here. (shelves_apart k s kind stamp is t here, shelf_same k s t ∙ shelves_apart k s kind stamp is t here)) l.row.shelves

    by_name : (same : Bool) → same_name n name ≡ same → find_shelf n k s (lines_changed name kind stamp g ls) ≡ find_shelf n k s ls
    by_name true is = by_key (k == kind && s == stamp) refl (name_is n name is)
    by_name false is = ap (option_and_then (λ (l : Line C). find (is_shelf k s) l.row.shelves)) (find_other (is_named n) (is_named name) (line_changed kind stamp g) (λ l here. (names_apart n name is l here, names_apart n name is l here)) ls)

  -- this key
  pub found_here : (name : List ℕ) (kind stamp : ℕ) (ls : List (Line C)) → find_shelf name kind stamp (lines_changed name kind stamp g ls) ≡ option_map g (find_shelf name kind stamp ls)
  found_here name kind stamp ls = read_here (find (is_named name) ls) (find_changed (is_named name) (line_changed kind stamp g) (λ l. refl) ls) where
    read_here : (o : Option (Line C)) → find (is_named name) (lines_changed name kind stamp g ls) ≡ option_map (line_changed kind stamp g) o → find_shelf name kind stamp (lines_changed name kind stamp g ls) ≡ option_map g (option_and_then (λ l. find (is_shelf kind stamp) l.row.shelves) o)
    read_here None found = ap (option_and_then (λ (l : Line C). find (is_shelf kind stamp) l.row.shelves)) found
    read_here (Some l) found = ap (option_and_then (λ (m : Line C). find (is_shelf kind stamp) m.row.shelves)) found ∙ find_changed (is_shelf kind stamp) g (λ s. shelf_same kind stamp s) l.row.shelves
