-- Lists that are one: by their places, by their members in an order, and by what stands beside them.
use Rattle.std.proofs.Common.{ℕ, zero, suc, ◌≡◌, ◌<◌, ◌⊎◌, ⊎_elim, List, [], ◌∷◌, Some, length, map, refl, sym, ap, ap₂, subst, ◌∙◌, arith}
use Rattle.std.specs.List.{AllPairs, AllZip, Contains, slice_get}
use Rattle.std.proofs.lemmas.Bool.{cases_order}
use Rattle.std.proofs.lemmas.Option.{none-some, same_Some}
use Rattle.wc_model.proofs.Places.{get_from_contains}
use Rattle.wc_model.specs.Program.Graphs.{AreKept, nothing, kept, left}
use Rattle.wc_nest.proofs.FlagLemmas.{contains_cases}
use Rattle.wc_nest.proofs.ListLemmas.{contains_head, contains_tail, empty_contains, pairs_at, pairs_from}

pub same_places : {X : Type 0} (xs ys : List X) → length xs ≡ length ys → ((i : ℕ) (x y : X) → slice_get xs i ≡ Some x → slice_get ys i ≡ Some y → x ≡ y) → xs ≡ ys
same_places [] [] counted same = refl
same_places [] (y ∷ ys) counted same = absurd (omega arith)
same_places (x ∷ xs) [] counted same = absurd (omega arith)
same_places {X} (x ∷ xs) (y ∷ ys) counted same =
    ap₂ (λ (v : X) (vs : List X). v ∷ vs) (same 0 x y refl refl) (same_places xs ys (omega arith) (λ i v w at_v at_w. same (suc i) v w at_v at_w))

-- in an order that goes one way
module _ {X : Type 0} (R : X → X → Type 0) (one_way : (x y : X) → R x y → R y x → ⊥) where
  pub place_once : (xs : List X) → AllPairs R xs → (i j : ℕ) (x : X) → slice_get xs i ≡ Some x → slice_get xs j ≡ Some x → i ≡ j
  place_once xs up i j x at_i at_j = ⊎_elim
      (λ (same : i ≡ j). same)
      (λ (apart : (i < j) ⊎ (j < i)). ⊎_elim
      (λ (less : i < j). let own : R x x = pairs_at R xs i j x x up less at_i at_j in absurd (one_way x x own own))
      (λ (more : j < i). let own : R x x = pairs_at R xs j i x x up more at_j at_i in absurd (one_way x x own own))
      apart)
      (cases_order i j)

  head_first : (x : X) (xs : List X) (y : X) → AllPairs R (x ∷ xs) → Contains xs y → R x y
  head_first x xs y up among = let placed = get_from_contains xs y among in pairs_at R (x ∷ xs) 0 (suc placed.0) x y up (omega arith) refl placed.1

  tail_up : (x : X) (xs : List X) → AllPairs R (x ∷ xs) → AllPairs R xs
  tail_up x xs up = λ i j d less within. up (suc i) (suc j) d (omega arith) (omega arith)

  rest_in : (x y : X) (xs ys : List X) → x ≡ y → AllPairs R (x ∷ xs) → ((z : X) → Contains (x ∷ xs) z → Contains (y ∷ ys) z) → (z : X) → Contains xs z → Contains ys z
  rest_in x y xs ys same up there z among = ⊎_elim
      (λ (first : y ≡ z). let own : R x x = subst (R x) (sym (same ∙ first)) (head_first x xs z up among) in absurd (one_way x x own own))
      (λ (later : Contains ys z). later)
      (contains_cases y ys z (there z (contains_tail x xs z among)))

  pub same_members : (xs ys : List X) → AllPairs R xs → AllPairs R ys → ((x : X) → Contains xs x → Contains ys x) → ((x : X) → Contains ys x → Contains xs x) → xs ≡ ys
  same_members [] [] up also there back = refl
  same_members [] (y ∷ ys) up also there back = absurd (empty_contains y (back y (contains_head y ys)))
  same_members (x ∷ xs) [] up also there back = absurd (empty_contains x (there x (contains_head x xs)))
  same_members (x ∷ xs) (y ∷ ys) up also there back =
      let first : x ≡ y = ⊎_elim
      (λ (same : y ≡ x). sym same)
      (λ (later : Contains ys x). ⊎_elim
      (λ (same : x ≡ y). same)
      (λ (deep : Contains xs y). absurd (one_way x y (head_first x xs y up deep) (head_first y ys x also later)))
      (contains_cases x xs y (back y (contains_head y ys))))
      (contains_cases y ys x (there x (contains_head x xs))) in
      let rest : xs ≡ ys = same_members xs ys (tail_up x xs up) (tail_up y ys also) (rest_in x y xs ys first up there) (rest_in y x ys xs (sym first) also back) in
      ap₂ (λ (v : X) (vs : List X). v ∷ vs) first rest

-- items by what a function makes of them
module _ {X Y : Type 0} (f : X → Y) where
  pub map_get : (xs : List X) (i : ℕ) (y : Y) → slice_get (map f xs) i ≡ Some y → (x : X) × (slice_get xs i ≡ Some x) × (f x ≡ y)
  map_get [] i y at = absurd (none-some y at)
  map_get (x ∷ xs) zero y at = (x, refl, same_Some (f x) y at)
  map_get (x ∷ xs) (suc i) y at = map_get xs i y at

  pub pairs_map : (R : Y → Y → Type 0) (xs : List X) → AllPairs (λ x y. R (f x) (f y)) xs → AllPairs R (map f xs)
  pairs_map R xs up = pairs_from R (map f xs) (λ i j u v less at_u at_v.
      let x = map_get xs i u at_u in
      let y = map_get xs j v at_v in
      subst (λ (w : Y). R u w) y.2 (subst (λ (w : Y). R w (f y.0)) x.2 (pairs_at (λ z w. R (f z) (f w)) xs i j x.0 y.0 up less x.1 y.1)))

-- items by those beside them
module _ {A B : Type 0} (R Q : A → B → Type 0) where
  pub zip_right_once : ((x : A) (y z : B) → R x y → Q x z → y ≡ z) → (xs : List A) (ys zs : List B) → AllZip R xs ys → AllZip Q xs zs → ys ≡ zs
  zip_right_once one [] [] [] is also = refl
  zip_right_once one [] [] (z ∷ zs) is also = absurd also
  zip_right_once one [] (y ∷ ys) zs is also = absurd is
  zip_right_once one (x ∷ xs) [] zs is also = absurd is
  zip_right_once one (x ∷ xs) (y ∷ ys) [] is also = absurd also
  zip_right_once one (x ∷ xs) (y ∷ ys) (z ∷ zs) is also = ap₂ (λ (v : B) (vs : List B). v ∷ vs) (one x y z is.0 also.0) (zip_right_once one xs ys zs is.1 also.1)

  pub zip_left_once : ((x z : A) (y : B) → R x y → Q z y → x ≡ z) → (xs zs : List A) (ys : List B) → AllZip R xs ys → AllZip Q zs ys → xs ≡ zs
  zip_left_once one [] [] ys is also = refl
  zip_left_once one [] (z ∷ zs) [] is also = absurd also
  zip_left_once one [] (z ∷ zs) (y ∷ ys) is also = absurd is
  zip_left_once one (x ∷ xs) zs [] is also = absurd is
  zip_left_once one (x ∷ xs) [] (y ∷ ys) is also = absurd also
  zip_left_once one (x ∷ xs) (z ∷ zs) (y ∷ ys) is also = ap₂ (λ (v : A) (vs : List A). v ∷ vs) (one x z y is.0 also.0) (zip_left_once one xs zs ys is.1 also.1)

-- what is kept of a list
pub kept_once : {A : Type 0} (Keeps : A → Type 0) {all some other : List A} → AreKept Keeps all some → AreKept Keeps all other → some ≡ other
kept_once Keeps nothing nothing = refl
kept_once {A} Keeps (kept {x = x} is rest) (kept also more) = ap (λ (vs : List A). x ∷ vs) (kept_once Keeps rest more)
kept_once Keeps (kept is rest) (left none more) = absurd (none is)
kept_once Keeps (left none rest) (kept is more) = absurd (none is)
kept_once Keeps (left none rest) (left also more) = kept_once Keeps rest more
