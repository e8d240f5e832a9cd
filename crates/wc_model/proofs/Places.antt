-- Elements of lists by their places.
use Rattle.std.proofs.Common.{ℕ, zero, suc, ◌≡◌, ◌≢◌, ◌<◌, ◌⊎◌, inl, inr, ⊎_elim, List, [], ◌∷◌, ◌++◌, Some, length, set, refl, ap, ◌∙◌, arith}
use Rattle.std.specs.List.{Contains, slice_get}
use Rattle.std.proofs.lemmas.Option.{none-some, same_Some, slice_get_within, get_or_from_slice_get, slice_get-get_or}

pub contains_from_get : {X : Type 0} (xs : List X) (i : ℕ) (x : X) → slice_get xs i ≡ Some x → Contains xs x
contains_from_get xs i x at = (i, slice_get_within xs i x at, get_or_from_slice_get xs i x x at)

pub get_from_contains : {X : Type 0} (xs : List X) (x : X) → Contains xs x → (i : ℕ) × (slice_get xs i ≡ Some x)
get_from_contains xs x among = (among.0, slice_get-get_or xs among.0 x among.1 ∙ ap Some among.2)

pub get_left : {X : Type 0} (xs ys : List X) (i : ℕ) (x : X) → slice_get xs i ≡ Some x → slice_get (xs ++ ys) i ≡ Some x
get_left [] ys i x at = absurd (none-some x at)
get_left (y ∷ xs) ys zero x at = at
get_left (y ∷ xs) ys (suc i) x at = get_left xs ys i x at

pub get_push : {X : Type 0} (xs : List X) (y : X) → slice_get (xs ++ y ∷ []) (length xs) ≡ Some y
get_push [] y = refl
get_push (z ∷ xs) y = get_push xs y

pub get_push_cases : {X : Type 0} (xs : List X) (y : X) (i : ℕ) (x : X) → slice_get (xs ++ y ∷ []) i ≡ Some x → (slice_get xs i ≡ Some x) ⊎ ((i ≡ length xs) × (y ≡ x))
get_push_cases [] y zero x at = inr (refl, same_Some y x at)
get_push_cases [] y (suc i) x at = absurd (none-some x at)
get_push_cases (z ∷ xs) y zero x at = inl at
get_push_cases (z ∷ xs) y (suc i) x at = ⊎_elim (λ old. inl old) (λ new. inr (ap suc new.0, new.1)) (get_push_cases xs y i x at)

pub get_set_cases : {X : Type 0} (xs : List X) (i j : ℕ) (y x : X) → slice_get (set xs i y) j ≡ Some x → ((j ≡ i) × (y ≡ x)) ⊎ ((j ≢ i) × (slice_get xs j ≡ Some x))
get_set_cases [] i j y x at = absurd (none-some x at)
get_set_cases (z ∷ xs) zero zero y x at = inl (refl, same_Some y x at)
get_set_cases (z ∷ xs) zero (suc j) y x at = inr ((λ (e : suc j ≡ zero). absurd (omega arith)), at)
get_set_cases (z ∷ xs) (suc i) zero y x at = inr ((λ (e : zero ≡ suc i). absurd (omega arith)), at)
get_set_cases (z ∷ xs) (suc i) (suc j) y x at = ⊎_elim (λ here. inl (ap suc here.0, here.1)) (λ other. inr ((λ (e : suc j ≡ suc i). other.0 (omega arith)), other.1)) (get_set_cases xs i j y x at)

pub get_set : {X : Type 0} (xs : List X) (i : ℕ) (y : X) → i < length xs → slice_get (set xs i y) i ≡ Some y
get_set [] i y within = absurd (omega arith)
get_set (z ∷ xs) zero y within = refl
get_set (z ∷ xs) (suc i) y within = get_set xs i y (omega arith)

pub get_set_other : {X : Type 0} (xs : List X) (i j : ℕ) (y x : X) → j ≢ i → slice_get xs j ≡ Some x → slice_get (set xs i y) j ≡ Some x
get_set_other [] i j y x apart at = absurd (none-some x at)
get_set_other (z ∷ xs) zero zero y x apart at = absurd (apart refl)
get_set_other (z ∷ xs) zero (suc j) y x apart at = at
get_set_other (z ∷ xs) (suc i) zero y x apart at = at
get_set_other (z ∷ xs) (suc i) (suc j) y x apart at = get_set_other xs i j y x (λ e. apart (ap suc e)) at

pub get_within : {X : Type 0} (xs : List X) (i : ℕ) → i < length xs → (x : X) × (slice_get xs i ≡ Some x)
get_within [] i within = absurd (omega arith)
get_within (y ∷ xs) zero within = (y, refl)
get_within (y ∷ xs) (suc i) within = get_within xs i (omega arith)
