-- Sums over the steps of some places, and over the loops whose steps they are.
use Rattle.std.proofs.Common.{◌≡◌, ℕ, zero, suc, ℤ, pos, ◌+ℤ◌, ◌*ℤ◌, ◌≤ℤ◌, List, [], ◌∷◌, length, slice_get, Some, Bool, true, false, sym, ap, ap₂, ◌∙◌, arith}
use Rattle.std.proofs.Math.IntN.{zero-*ℤ, *ℤ_comm}
use Rattle.std.proofs.lemmas.Int.{ints}
use Rattle.wc_base.specs.Sums.{sum_placed, sum_in, chosen}
use Rattle.wc_base.proofs.Products.{spread_left, exchange, one_times}
use Rattle.wc_base.proofs.SumLemmas.{sum_same, sum_add, sum_scale, sum_swap}
use Rattle.wc_model.specs.declared.flow_system.System.{System}
use Rattle.wc_model.specs.declared.flow_system.SystemLoop.{SystemLoop}
use Rattle.wc_model.specs.Flow.Places.{is_listed}
use Rattle.wc_model.specs.Flow.Systems.{ArePlaces}
pub use Rattle.wc_dual.proofs.DualityLemmas.{get_all, sum_listed, times_chosen}
use Rattle.wc_nestsolve.specs.Inner.Flows.{linear}

-- a sum of terms that aren't negative
pub sum_some : {X : Type 0} (f : ℕ → X → ℤ) (xs : List X) → ((i : ℕ) (x : X) → pos 0 ≤ℤ f i x) → pos 0 ≤ℤ sum_placed f xs
sum_some f [] some = omega (arith, ints)
sum_some f (x ∷ xs) some = omega (arith, ints, some zero x, sum_some (λ i. f (suc i)) xs (λ i. some (suc i)))

pub once_chosen : (b : Bool) (z : ℤ) → chosen b z ≡ chosen b (pos 1) *ℤ z
once_chosen true z = sym (one_times z)
once_chosen false z = sym (zero-*ℤ z)

-- What the loops say of each step, summed loop by loop: `places l` are those of the loop's steps, `price k l` is its price.
module _ (s : System) (x : ℕ → ℤ) (places : SystemLoop → List ℕ) (price : ℕ → SystemLoop → ℤ) where
  pub by_loop : ((k : ℕ) (l : SystemLoop) → slice_get s.loops k ≡ Some l → ArePlaces (length s.steps) (places l))
      → sum_placed (λ i _. x i *ℤ sum_placed (λ k l. chosen (is_listed i (places l)) (price k l)) s.loops) s.steps ≡ sum_placed (λ k l. price k l *ℤ sum_in x (places l)) s.loops
  by_loop placed =
      sum_same (λ i _. x i *ℤ sum_placed (λ k l. chosen (is_listed i (places l)) (price k l)) s.loops)
      (λ i _. sum_placed (λ k l. chosen (is_listed i (places l)) (x i *ℤ price k l)) s.loops) s.steps
      (λ i t at. sym (sum_scale (x i) (λ k l. chosen (is_listed i (places l)) (price k l)) s.loops)
      ∙ sum_same (λ k l. x i *ℤ chosen (is_listed i (places l)) (price k l)) (λ k l. chosen (is_listed i (places l)) (x i *ℤ price k l)) s.loops
      (λ k l h. times_chosen (is_listed i (places l)) (x i) (price k l)))
      ∙ sum_swap (λ i _ k l. chosen (is_listed i (places l)) (x i *ℤ price k l)) s.steps s.loops
      ∙ sum_same (λ k l. sum_placed (λ i _. chosen (is_listed i (places l)) (x i *ℤ price k l)) s.steps) (λ k l. price k l *ℤ sum_in x (places l)) s.loops
      (λ k l h. sum_listed (λ i. x i *ℤ price k l) s.steps (places l) (placed k l h).0 (placed k l h).1
      ∙ sum_same (λ _ i. x i *ℤ price k l) (λ _ i. price k l *ℤ x i) (places l) (λ j i at. *ℤ_comm (x i) (price k l))
      ∙ sum_scale (price k l) (λ _ i. x i) (places l))

-- Linear functions of counts.
module _ {X : Type 0} (g : ℕ → X → ℤ) (xs : List X) (x y : ℕ → ℤ) (r : ℤ) where
  pub linear_more : linear g xs (λ i. x i +ℤ r *ℤ y i) ≡ linear g xs x +ℤ r *ℤ linear g xs y
  linear_more =
      sum_same (λ i t. g i t *ℤ (x i +ℤ r *ℤ y i)) (λ i t. g i t *ℤ x i +ℤ r *ℤ (g i t *ℤ y i)) xs
      (λ i t at. spread_left (g i t) (x i) (r *ℤ y i) ∙ ap (λ z. g i t *ℤ x i +ℤ z) (exchange (g i t) r (y i)))
      ∙ sum_add (λ i t. g i t *ℤ x i) (λ i t. r *ℤ (g i t *ℤ y i)) xs
      ∙ ap (λ z. linear g xs x +ℤ z) (sum_scale r (λ i t. g i t *ℤ y i) xs)

pub chosen_linear : {X : Type 0} (key : ℕ → X → Bool) (xs : List X) (x : ℕ → ℤ) → sum_placed (λ i t. chosen (key i t) (x i)) xs ≡ linear (λ i t. chosen (key i t) (pos 1)) xs x
chosen_linear key xs x = sum_same (λ i t. chosen (key i t) (x i)) (λ i t. chosen (key i t) (pos 1) *ℤ x i) xs (λ i t at. once_chosen (key i t) (x i))

pub chosen_more : {X : Type 0} (key : ℕ → X → Bool) (xs : List X) (x y : ℕ → ℤ) (r : ℤ)
    → sum_placed (λ i t. chosen (key i t) (x i +ℤ r *ℤ y i)) xs ≡ sum_placed (λ i t. chosen (key i t) (x i)) xs +ℤ r *ℤ sum_placed (λ i t. chosen (key i t) (y i)) xs
chosen_more key xs x y r =
    chosen_linear key xs (λ i. x i +ℤ r *ℤ y i) ∙ linear_more (λ i t. chosen (key i t) (pos 1)) xs x y r
    ∙ sym (ap₂ (λ a b. a +ℤ r *ℤ b) (chosen_linear key xs x) (chosen_linear key xs y))

pub places_more : (places : List ℕ) (x y : ℕ → ℤ) (r : ℤ) → sum_in (λ i. x i +ℤ r *ℤ y i) places ≡ sum_in x places +ℤ r *ℤ sum_in y places
places_more places x y r =
    sum_add (λ _ i. x i) (λ _ i. r *ℤ y i) places ∙ ap (λ z. sum_in x places +ℤ z) (sum_scale r (λ _ i. y i) places)
