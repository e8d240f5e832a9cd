-- Rising lists, and elements at the ends of lists.
use Rattle.std.proofs.Common.{ℕ, zero, suc, ◌≡◌, ◌+◌, ◌-◌, ◌<◌, ◌≤◌, ⊎_elim, List, [], ◌∷◌, ◌++◌, Some, length, get_or, set, take, drop, refl, sym, ap, subst, ◌∙◌, arith}
use Rattle.std.specs.List.{AllPairs, Contains, slice_get}
use Rattle.std.proofs.lemmas.Bool.{cases_lt}
use Rattle.std.proofs.lemmas.List.{length_push, get_or_append_left, get_or_push}
use Rattle.std.proofs.lemmas.Option.{none-some, same_Some, slice_get_within, slice_get-get_or, get_or_from_slice_get}
use Rattle.wc_model.proofs.Places.{get_from_contains}

pub contains_head : {X : Type 0} (x : X) (xs : List X) → Contains (x ∷ xs) x
contains_head x xs = (0, omega arith, refl)

pub contains_tail : {X : Type 0} (x : X) (xs : List X) (y : X) → Contains xs y → Contains (x ∷ xs) y
contains_tail x xs y (k, within, is) = (suc k, omega arith, is)

pub empty_contains : {X : Type 0} (x : X) → Contains [] x → ⊥
empty_contains x among = omega (arith, among.1)

-- a rising list
pub rises_at : (xs : List ℕ) (i j x y : ℕ) → AllPairs (λ a b. a < b) xs → slice_get xs i ≡ Some x → slice_get xs j ≡ Some y → i < j → x < y
rises_at xs i j x y rises ati atj less =
    let is_x : get_or xs i x ≡ x = get_or_from_slice_get xs i x x ati in
    let is_y : get_or xs j x ≡ y = get_or_from_slice_get xs j y x atj in
    let grows : get_or xs i x < get_or xs j x = rises i j x less (slice_get_within xs j y atj) in
    omega arith

pub below_last : (xs : List ℕ) (b y : ℕ) → AllPairs (λ a b. a < b) xs → slice_get xs (length xs - 1) ≡ Some b → Contains xs y → y ≤ b
below_last xs b y rises last among =
    let placed : (i : ℕ) × (slice_get xs i ≡ Some y) = get_from_contains xs y among in
    let within : placed.0 < length xs = slice_get_within xs placed.0 y placed.1 in
    ⊎_elim
    (λ (before : placed.0 < length xs - 1). let less : y < b = rises_at xs placed.0 (length xs - 1) y b rises placed.1 last before in omega arith)
    (λ (there : length xs - 1 ≤ placed.0).
    let same : placed.0 ≡ length xs - 1 = omega arith in
    let one : y ≡ b = same_Some y b (sym placed.1 ∙ ap (slice_get xs) same ∙ last) in
    omega arith)
    (cases_lt placed.0 (length xs - 1))

pub before_last : (xs : List ℕ) (x y : ℕ) → AllPairs (λ a b. a < b) (xs ++ x ∷ []) → Contains xs y → y < x
before_last xs x y rises among =
    let grows : get_or (xs ++ x ∷ []) among.0 y < get_or (xs ++ x ∷ []) (length xs) y = rises among.0 (length xs) y among.1 (omega (arith, length_push xs x)) in
    let first : get_or (xs ++ x ∷ []) among.0 y ≡ y = get_or_append_left xs (x ∷ []) y among.0 among.1 ∙ among.2 in
    let last : get_or (xs ++ x ∷ []) (length xs) y ≡ x = get_or_push xs x y (length xs) refl in
    omega arith

pub rises_front : (xs : List ℕ) (x : ℕ) → AllPairs (λ a b. a < b) (xs ++ x ∷ []) → AllPairs (λ a b. a < b) xs
rises_front xs x rises = λ i j d less within.
    let grows : get_or (xs ++ x ∷ []) i d < get_or (xs ++ x ∷ []) j d = rises i j d less (omega (arith, length_push xs x)) in
    let first : get_or (xs ++ x ∷ []) i d ≡ get_or xs i d = get_or_append_left xs (x ∷ []) d i (omega arith) in
    let later : get_or (xs ++ x ∷ []) j d ≡ get_or xs j d = get_or_append_left xs (x ∷ []) d j within in
    omega arith

-- elements of a front and of what is behind it
pub get_take : {X : Type 0} (xs : List X) (n i : ℕ) (x : X) → i < n → slice_get xs i ≡ Some x → slice_get (take n xs) i ≡ Some x
get_take [] n i x less at = absurd (none-some x at)
get_take (y ∷ xs) zero i x less at = absurd (omega arith)
get_take (y ∷ xs) (suc n) zero x less at = at
get_take (y ∷ xs) (suc n) (suc i) x less at = get_take xs n i x (omega arith) at

pub take_get : {X : Type 0} (xs : List X) (n i : ℕ) (x : X) → slice_get (take n xs) i ≡ Some x → (i < n) × (slice_get xs i ≡ Some x)
take_get xs zero i x at = absurd (none-some x at)
take_get [] (suc n) i x at = absurd (none-some x at)
take_get (y ∷ xs) (suc n) zero x at = (omega arith, at)
take_get (y ∷ xs) (suc n) (suc i) x at = let before = take_get xs n i x at in (omega (arith, before.0), before.1)

pub get_drop : {X : Type 0} (xs : List X) (n i : ℕ) (x : X) → slice_get xs (n + i) ≡ Some x → slice_get (drop n xs) i ≡ Some x
get_drop [] n i x at = absurd (none-some x at)
get_drop (y ∷ xs) zero i x at = let e : 0 + i ≡ i = omega arith in subst (λ (k : ℕ). slice_get (y ∷ xs) k ≡ Some x) e at
get_drop (y ∷ xs) (suc n) i x at = let e : suc n + i ≡ suc (n + i) = omega arith in get_drop xs n i x (subst (λ (k : ℕ). slice_get (y ∷ xs) k ≡ Some x) e at)

pub drop_get : {X : Type 0} (xs : List X) (n i : ℕ) (x : X) → slice_get (drop n xs) i ≡ Some x → slice_get xs (n + i) ≡ Some x
drop_get xs zero i x at = let e : i ≡ 0 + i = omega arith in subst (λ (k : ℕ). slice_get xs k ≡ Some x) e at
drop_get [] (suc n) i x at = absurd (none-some x at)
drop_get (y ∷ xs) (suc n) i x at = let e : suc (n + i) ≡ suc n + i = omega arith in subst (λ (k : ℕ). slice_get (y ∷ xs) k ≡ Some x) e (drop_get xs n i x at)

pub rises_head : (x : ℕ) (xs : List ℕ) (y : ℕ) → AllPairs (λ a b. a < b) (x ∷ xs) → Contains xs y → x < y
rises_head x xs y rises among = let placed : (i : ℕ) × (slice_get xs i ≡ Some y) = get_from_contains xs y among in rises_at (x ∷ xs) 0 (suc placed.0) x y rises refl placed.1 (omega arith)

pub rises_tail : (x : ℕ) (xs : List ℕ) → AllPairs (λ a b. a < b) (x ∷ xs) → AllPairs (λ a b. a < b) xs
rises_tail x xs rises = λ i j d less within. rises (suc i) (suc j) d (omega arith) (omega arith)

pub set_other : {X : Type 0} (xs : List X) (i j : ℕ) (x : X) → (i ≡ j → ⊥) → slice_get (set xs i x) j ≡ slice_get xs j
set_other [] i j x other = refl
set_other (y ∷ xs) zero zero x other = absurd (other refl)
set_other (y ∷ xs) zero (suc j) x other = refl
set_other (y ∷ xs) (suc i) zero x other = refl
set_other (y ∷ xs) (suc i) (suc j) x other = set_other xs i j x (λ (e : i ≡ j). other (ap suc e))

pub get_front : {X : Type 0} (xs ys : List X) (i : ℕ) (x : X) → i < length xs → slice_get (xs ++ ys) i ≡ Some x → slice_get xs i ≡ Some x
get_front [] ys i x less at = absurd (omega arith)
get_front (z ∷ xs) ys zero x less at = at
get_front (z ∷ xs) ys (suc i) x less at = get_front xs ys i x (omega arith) at

-- pairs of elements by their places
pub pairs_from : {X : Type 0} (R : X → X → Type 0) (xs : List X) → ((i j : ℕ) (x y : X) → i < j → slice_get xs i ≡ Some x → slice_get xs j ≡ Some y → R x y) → AllPairs R xs
pairs_from R xs all = λ i j d less within. all i j (get_or xs i d) (get_or xs j d) less (slice_get-get_or xs i d (omega arith)) (slice_get-get_or xs j d within)

pub pairs_at : {X : Type 0} (R : X → X → Type 0) (xs : List X) (i j : ℕ) (x y : X) → AllPairs R xs → i < j → slice_get xs i ≡ Some x → slice_get xs j ≡ Some y → R x y
pairs_at {X} R xs i j x y all less at_x at_y =
    let is_x : get_or xs i x ≡ x = get_or_from_slice_get xs i x x at_x in
    let is_y : get_or xs j x ≡ y = get_or_from_slice_get xs j y x at_y in
    subst (λ (z : X). R x z) is_y (subst (λ (z : X). R z (get_or xs j x)) is_x (all i j x less (slice_get_within xs j y at_y)))
