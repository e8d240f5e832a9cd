-- Sums to which rows add terms, one row after the other.
use Rattle.std.proofs.Common.{◌≡◌, ℕ, zero, suc, ◌+◌, ◌<◌, ◌≤◌, ℤ, pos, ◌+ℤ◌, List, [], ◌∷◌, length, take, slice_get, Some, refl, sym, ap, subst, ◌∙◌, arith}
use Rattle.std.proofs.lemmas.Int.{ints}
use Rattle.wc_base.specs.Arithmetic.{InRange}
use Rattle.wc_base.specs.Sums.{sum_placed}
use Rattle.wc_base.proofs.SumLemmas.{sum_zero}
use Rattle.wc_dual.specs.Wide.{IsOut, Leaves}
use Rattle.wc_dual.specs.Inner.Blocks.{Adds, CannotAdd}
use Rattle.wc_dual.specs.Inner.Passes.{CannotSum, added_by}
use Rattle.wc_dual.proofs.BlockLemmas.{sum_more, take_all}

-- One sum.
module _ {X : Type 0} (f : ℕ → X → ℤ) (xs : List X) (begin : ℤ) where
  pub sum_next : (n : ℕ) (x : X) (sum next : ℤ) → slice_get xs n ≡ Some x → sum ≡ begin +ℤ sum_placed f (take n xs) → next ≡ sum +ℤ f n x → next ≡ begin +ℤ sum_placed f (take (n + 1) xs)
  sum_next n x sum next at before is = omega (arith, ints, before, is, sum_more f xs n x at)

  pub sum_out : (n : ℕ) (x : X) (sum : ℤ) → slice_get xs n ≡ Some x → sum ≡ begin +ℤ sum_placed f (take n xs) → IsOut (sum +ℤ f n x) → Leaves begin f xs
  sum_out n x sum at before out = (n + 1, λ fits. out (subst (λ z. InRange z) (omega (arith, ints, before, sum_more f xs n x at)) fits))

  pub sum_all : (n : ℕ) (sum : ℤ) → n ≡ length xs → sum ≡ begin +ℤ sum_placed f (take n xs) → sum ≡ begin +ℤ sum_placed f xs
  sum_all n sum last before = before ∙ ap (λ m. begin +ℤ sum_placed f (take m xs)) last ∙ ap (λ ys. begin +ℤ sum_placed f ys) (take_all xs)

-- the same from nothing on
module _ {X : Type 0} (f : ℕ → X → ℤ) (xs : List X) where
  pub plain_next : (n : ℕ) (x : X) (sum next : ℤ) → slice_get xs n ≡ Some x → sum ≡ sum_placed f (take n xs) → next ≡ sum +ℤ f n x → next ≡ sum_placed f (take (n + 1) xs)
  plain_next n x sum next at before is = omega (arith, ints, before, is, sum_more f xs n x at)

  pub plain_out : (n : ℕ) (x : X) (sum : ℤ) → slice_get xs n ≡ Some x → sum ≡ sum_placed f (take n xs) → IsOut (sum +ℤ f n x) → Leaves (pos 0) f xs
  plain_out n x sum at before out = (n + 1, λ fits. out (subst (λ z. InRange z) (omega (arith, ints, before, sum_more f xs n x at)) fits))

-- where the terms from a place on are 0
pub sum_rest : {X : Type 0} (f : ℕ → X → ℤ) (xs : List X) (n : ℕ) → ((i : ℕ) (x : X) → slice_get xs i ≡ Some x → n ≤ i → f i x ≡ pos 0) → sum_placed f (take n xs) ≡ sum_placed f xs
sum_rest f xs zero none = sym (sum_zero f xs (λ i x at. none i x at (omega arith)))
sum_rest f [] (suc n) none = refl
sum_rest f (x ∷ xs) (suc n) none = ap (λ z. f zero x +ℤ z) (sum_rest (λ i. f (suc i)) xs n (λ i y at above. none (suc i) y at (omega (arith, above))))

-- The sums of a block.
module _ {X : Type 0} (g : ℕ → X → ℕ → ℤ) (rows : List X) (first : ℕ) where
  pub pass_start : (old : List ℤ) → Adds first (added_by g (take 0 rows)) old old
  pass_start old = (refl, λ k below. omega (arith, ints))

  pub pass_next : (n : ℕ) (r : X) (old mid new : List ℤ) → slice_get rows n ≡ Some r → Adds first (added_by g (take n rows)) old mid → Adds first (g n r) mid new → Adds first (added_by g (take (n + 1) rows)) old new
  pass_next n r old mid new at before adds =
      (adds.0 ∙ before.0, λ k below. omega (arith, ints, adds.1 k (omega (arith, below, before.0)), before.1 k below, sum_more (λ j s. g j s (first + k)) rows n r at))

  pub pass_out : (n : ℕ) (r : X) (old mid : List ℤ) → slice_get rows n ≡ Some r → Adds first (added_by g (take n rows)) old mid → CannotAdd first (g n r) mid → CannotSum g rows first old
  pass_out n r old mid at before cannot =
      let within : cannot.0 < length old = omega (arith, cannot.1, before.0) in (
        cannot.0,
        within,
        (
          n + 1,
          λ fits. cannot.2 (subst (λ z. InRange z)
              (omega (arith, ints, sum_more (λ j s. g j s (first + cannot.0)) rows n r at, before.1 cannot.0 within)) fits),
        ),
      )

  pub pass_all : (n : ℕ) (old new : List ℤ) → n ≡ length rows → Adds first (added_by g (take n rows)) old new → Adds first (added_by g rows) old new
  pass_all n old new last before = subst (λ rs. Adds first (added_by g rs) old new) (ap (λ m. take m rows) last ∙ take_all rows) before
