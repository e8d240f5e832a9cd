-- Laws of sums over a list whose terms may depend on their places.
use Rattle.std.proofs.Common.{◌≡◌, ℕ, zero, suc, ◌==◌, ℤ, pos, ◌+ℤ◌, ◌-ℤ◌, ◌*ℤ◌, ◌≤ℤ◌, List, [], ◌∷◌, slice_get, Some, Bool, true, false, refl, sym, ap, ap₂, ◌∙◌, arith}
use Rattle.std.proofs.Math.IntN.{*ℤ-zero}
use Rattle.std.proofs.lemmas.Bool.Decides.{nat_tests}
use Rattle.std.proofs.lemmas.Int.{ints}
use Rattle.wc_base.specs.Sums.{sum_placed, chosen}
use Rattle.wc_base.proofs.Products.{spread_left}

first_only : (i : ℕ) → (0 == suc i) ≡ false
first_only i = grind (arith, nat_tests)

not_first : (n : ℕ) → (suc n == 0) ≡ false
not_first n = grind (arith, nat_tests)

same_place : (n i : ℕ) → (suc n == suc i) ≡ (n == i)
same_place n i = by (n == i) refl
  where
    by : (b : Bool) → (n == i) ≡ b → (suc n == suc i) ≡ b
    by true is = grind (arith, nat_tests)
    by false is = grind (arith, nat_tests)

module _ {X : Type 0} where
  pub sum_same : (f g : ℕ → X → ℤ) (xs : List X) → ((i : ℕ) (x : X) → slice_get xs i ≡ Some x → f i x ≡ g i x) → sum_placed f xs ≡ sum_placed g xs
  sum_same f g [] each = refl
  sum_same f g (x ∷ xs) each = ap₂ (λ a b. a +ℤ b) (each zero x refl) (sum_same (λ i. f (suc i)) (λ i. g (suc i)) xs (λ i y at. each (suc i) y at))

  pub sum_most : (f g : ℕ → X → ℤ) (xs : List X) → ((i : ℕ) (x : X) → slice_get xs i ≡ Some x → f i x ≤ℤ g i x) → sum_placed f xs ≤ℤ sum_placed g xs
  sum_most f g [] each = omega (arith, ints)
  sum_most f g (x ∷ xs) each = omega (arith, ints, each zero x refl, sum_most (λ i. f (suc i)) (λ i. g (suc i)) xs (λ i y at. each (suc i) y at))

  pub sum_zero : (f : ℕ → X → ℤ) (xs : List X) → ((i : ℕ) (x : X) → slice_get xs i ≡ Some x → f i x ≡ pos 0) → sum_placed f xs ≡ pos 0
  sum_zero f [] each = refl
  sum_zero f (x ∷ xs) each = omega (arith, ints, each zero x refl, sum_zero (λ i. f (suc i)) xs (λ i y at. each (suc i) y at))

  pub sum_add : (f g : ℕ → X → ℤ) (xs : List X) → sum_placed (λ i x. f i x +ℤ g i x) xs ≡ sum_placed f xs +ℤ sum_placed g xs
  sum_add f g [] = refl
  sum_add f g (x ∷ xs) = omega (arith, ints, sum_add (λ i. f (suc i)) (λ i. g (suc i)) xs)

  pub sum_less : (f g : ℕ → X → ℤ) (xs : List X) → sum_placed (λ i x. f i x -ℤ g i x) xs ≡ sum_placed f xs -ℤ sum_placed g xs
  sum_less f g [] = refl
  sum_less f g (x ∷ xs) = omega (arith, ints, sum_less (λ i. f (suc i)) (λ i. g (suc i)) xs)

  pub sum_scale : (c : ℤ) (f : ℕ → X → ℤ) (xs : List X) → sum_placed (λ i x. c *ℤ f i x) xs ≡ c *ℤ sum_placed f xs
  sum_scale c f [] = sym (*ℤ-zero c)
  sum_scale c f (x ∷ xs) =
      ap (λ z. c *ℤ f zero x +ℤ z) (sum_scale c (λ i. f (suc i)) xs) ∙ sym (spread_left c (f zero x) (sum_placed (λ i. f (suc i)) xs))

  -- the one term at a place
  pub sum_pick : (f : ℕ → X → ℤ) (xs : List X) (n : ℕ) (x : X) → slice_get xs n ≡ Some x → sum_placed (λ i y. chosen (n == i) (f i y)) xs ≡ f n x
  sum_pick f [] n x at = cc
  sum_pick f (y ∷ ys) zero x at =
      let none = sum_zero (λ i y'. chosen (0 == suc i) (f (suc i) y')) ys (λ i y' h. ap (λ b. chosen b (f (suc i) y')) (first_only i)) in
      let is : y ≡ x = cc in
      omega (arith, ints, none, ap (f zero) is)
  sum_pick f (y ∷ ys) (suc n) x at =
      let rest = sum_same (λ i y'. chosen (suc n == suc i) (f (suc i) y')) (λ i y'. chosen (n == i) (f (suc i) y')) ys
      (λ i y' h. ap (λ b. chosen b (f (suc i) y')) (same_place n i)) in
      omega (arith, ints, ap (λ b. chosen b (f zero y)) (not_first n), rest, sum_pick (λ i. f (suc i)) ys n x at)

-- Two sums change places.
pub sum_swap : {X Y : Type 0} (f : ℕ → X → ℕ → Y → ℤ) (xs : List X) (ys : List Y)
    → sum_placed (λ i x. sum_placed (λ j y. f i x j y) ys) xs ≡ sum_placed (λ j y. sum_placed (λ i x. f i x j y) xs) ys
sum_swap f [] ys = sym (sum_zero (λ j y. pos 0) ys (λ j y at. refl))
sum_swap f (x ∷ xs) ys =
    ap (λ z. sum_placed (λ j y. f zero x j y) ys +ℤ z) (sum_swap (λ i. f (suc i)) xs ys)
    ∙ sym (sum_add (λ j y. f zero x j y) (λ j y. sum_placed (λ i x'. f (suc i) x' j y) xs) ys)
