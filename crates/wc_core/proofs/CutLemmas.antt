-- What an edit leaves of the store.
use Rattle.std.proofs.Common.{ℕ, ◌≡◌, ◌≤◌, ◌==◌, ◌&&◌, Bool, true, false, cond, not, if◌then◌else◌, List, [], ◌∷◌, Option, None, Some, map, length, refl, sym, ap, ap₂, ◌∙◌}
use Rattle.std.specs.List.{All, find, filter}
use Rattle.std.specs.Option.{option_and_then, option_map}
use Rattle.std.proofs.lemmas.Bool.{and_parts, eqb-true}
use Rattle.std.proofs.lemmas.List.Elements.{All-cons, All-filter, All-head, All-nil, All-tail}
use Rattle.wc_model.specs.Workspace.States.{Row}
use Rattle.wc_core.specs.Inner.Lines.{Line, is_named, lines_of, names, row_of}
use Rattle.wc_core.specs.Inner.Shelves.{KnownShelf, is_shelf}
use Rattle.wc_core.specs.Inner.Touching.{line_cut, lines_cut, row_cut}
use Rattle.wc_core.proofs.FindLemmas.{find_gone, find_kept, find_map}
use Rattle.wc_core.proofs.LineLemmas.{Entry}
use Rattle.wc_core.proofs.ShelfLemmas.{find_shelf, keyed}

both_same : {A : Type 0} (b : Bool) (x : A) → x ≡ (if b then x else x)
both_same true x = refl
both_same false x = refl

module _ {C : Type 0} (touched : ℕ → Bool) where
  shelf_kind : (k s : ℕ) (t : KnownShelf C) → is_shelf k s t ≡ true → t.kind ≡ k
  shelf_kind k s t is = eqb-true t.kind k (and_parts (t.kind == k) (t.stamp == s) is).0

  cut_row : (k s : ℕ) (is : Bool) → touched k ≡ is → (ss : List (KnownShelf C)) → find (is_shelf k s) (filter (λ t. not (touched t.kind)) ss) ≡ (if is then None else find (is_shelf k s) ss)
  cut_row k s true is ss = find_gone (is_shelf k s) (λ t. not (touched t.kind)) ss (λ t here. ap not (ap touched (shelf_kind k s t here) ∙ is))
  cut_row k s false is ss = find_kept (is_shelf k s) (λ t. not (touched t.kind)) ss (λ t here. ap not (ap touched (shelf_kind k s t here) ∙ is))

  read_cut : (k s : ℕ) (o : Option (Line C)) → option_and_then (λ l. find (is_shelf k s) l.row.shelves) (option_map (line_cut touched) o) ≡ (if touched k then None else option_and_then (λ l. find (is_shelf k s) l.row.shelves) o)
  read_cut k s None = both_same (touched k) None
  read_cut k s (Some l) = cut_row k s (touched k) refl l.row.shelves

  pub cut_found : (n : List ℕ) (k s : ℕ) (ls : List (Line C)) → find_shelf n k s (lines_cut touched ls) ≡ (if touched k then None else find_shelf n k s ls)
  cut_found n k s ls = ap (option_and_then (λ (l : Line C). find (is_shelf k s) l.row.shelves)) (find_map (is_named n) (line_cut touched) ls) ∙ read_cut k s (find (is_named n) ls)

  pub cut_names : (ls : List (Line C)) → names (lines_cut touched ls) ≡ names ls
  cut_names [] = refl
  cut_names (l ∷ ls) = ap (λ ns. l.name ∷ ns) (cut_names ls)

  -- the replay's rows
  keys_case : (t : KnownShelf C) (ts : List (KnownShelf C)) (stays : Bool) → map keyed (filter (λ u. not (touched u.kind)) ts) ≡ filter (λ k. not (touched k.0)) (map keyed ts)
      → map keyed (cond stays (t ∷ filter (λ u. not (touched u.kind)) ts) (filter (λ u. not (touched u.kind)) ts)) ≡ cond stays (keyed t ∷ filter (λ k. not (touched k.0)) (map keyed ts)) (filter (λ k. not (touched k.0)) (map keyed ts))
  keys_case t ts true later = ap (λ ks. keyed t ∷ ks) later
  keys_case t ts false later = later

  cut_keys : (ts : List (KnownShelf C)) → map keyed (filter (λ u. not (touched u.kind)) ts) ≡ filter (λ k. not (touched k.0)) (map keyed ts)
  cut_keys [] = refl
  cut_keys (t ∷ ts) = keys_case t ts (not (touched t.kind)) (cut_keys ts)

  pub cut_rows : (ls : List (Line C)) → map row_of (lines_cut touched ls) ≡ map (λ (r : Row). record r { keys = filter (λ k. not (touched k.0)) r.keys }) (map row_of ls)
  cut_rows [] = refl
  cut_rows (l ∷ ls) = ap₂ (λ ks rs. record { name = l.name; keys = ks } ∷ rs) (cut_keys l.row.shelves) (cut_rows ls)

  abbrev Shaped : ℕ → ℕ → Line C → Type 0
  Shaped room wide l = (room ≤ l.row.room) × All (λ (s : KnownShelf C). length s.copies ≡ wide) l.row.shelves

  pub cut_shapes : (room wide : ℕ) (ls : List (Line C)) → All (Shaped room wide) ls → All (Shaped room wide) (lines_cut touched ls)
  cut_shapes room wide [] all = All-nil (Shaped room wide)
  cut_shapes room wide (l ∷ ls) all =
      let here = All-head (Shaped room wide) l ls all in
      All-cons (Shaped room wide) (line_cut touched l) (lines_cut touched ls) (here.0, All-filter (λ (t : KnownShelf C). not (touched t.kind)) (λ (s : KnownShelf C). length s.copies ≡ wide) l.row.shelves here.1)
      (cut_shapes room wide ls (All-tail (Shaped room wide) l ls all))

  -- the entries of the map
  pub cut_entries : (es : List (Entry C)) → lines_of (map (λ (e : Entry C). (e.0, row_cut touched e.1)) es) ≡ lines_cut touched (lines_of es)
  cut_entries [] = refl
  cut_entries (e ∷ es) = ap (λ (ls : List (Line C)). record { name = (e.0).items; row = row_cut touched e.1 } ∷ ls) (cut_entries es)
