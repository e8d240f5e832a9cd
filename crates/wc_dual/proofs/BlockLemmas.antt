-- Sums of a block.
use Rattle.std.proofs.Common.{◌≡◌, ℕ, zero, suc, ◌==◌, ◌+◌, ◌-◌, ◌<◌, ℤ, ◌+ℤ◌, ◌-ℤ◌, neg_ℤ, List, [], ◌∷◌, length, take, slice_get, Option, Some, None, Bool, true, false, refl, sym, ap, subst, ◌∙◌, arith}
use Rattle.std.proofs.lemmas.Bool.Decides.{nat_tests}
use Rattle.std.proofs.lemmas.Int.{ints}
use Rattle.std.specs.Bool.{MatchBool}
use Rattle.wc_base.specs.Arithmetic.{InRange}
use Rattle.wc_base.specs.Sums.{sum_placed, chosen}
use Rattle.wc_model.specs.declared.flow_system.SystemStep.{SystemStep}
use Rattle.wc_model.specs.Flow.Places.{number_at}
use Rattle.wc_model.specs.Flow.Systems.{leads_to}
use Rattle.wc_dual.specs.Wide.{balance}
use Rattle.wc_dual.specs.Inner.Blocks.{Adds, AreBalances, CannotAdd, CannotPut, CannotTake, IsTurn, LeavesIn, balance_of}

-- One more term of a sum.
pub sum_more : {X : Type 0} (f : ℕ → X → ℤ) (xs : List X) (n : ℕ) (x : X) → slice_get xs n ≡ Some x → sum_placed f (take (n + 1) xs) ≡ sum_placed f (take n xs) +ℤ f n x
sum_more {X} f xs n x at = ap (λ m. sum_placed f (take m xs)) (let next : n + 1 ≡ suc n = omega arith in next) ∙ from f xs n x at
  where
    from : (g : ℕ → X → ℤ) (ys : List X) (m : ℕ) (y : X) → slice_get ys m ≡ Some y → sum_placed g (take (suc m) ys) ≡ sum_placed g (take m ys) +ℤ g m y
    from g [] m y at' = cc
    from g (z ∷ ys) zero y at' = let is : z ≡ y = cc in omega (arith, ints, ap (g zero) is)
    from g (z ∷ ys) (suc m) y at' = omega (arith, ints, from (λ i. g (suc i)) ys m y at')

pub take_all : {X : Type 0} (xs : List X) → take (length xs) xs ≡ xs
take_all [] = refl
take_all (x ∷ xs) = ap (λ ys. x ∷ ys) (take_all xs)

-- A step adds to its source and takes off its target.
pub step_itself : (first : ℕ) (amount : ℤ) (t : SystemStep) (old : List ℤ) → t.target ≡ Some t.source → Adds first (balance_of amount t) old old
step_itself first amount t old itself = (refl, λ k below. by k (t.source == first + k) (ap (λ o. leads_to o (first + k)) itself))
  where
    by : (k : ℕ) (b : Bool) → leads_to t.target (first + k) ≡ b → number_at old k ≡ number_at old k +ℤ (chosen b amount -ℤ chosen (leads_to t.target (first + k)) amount)
    by k true is = omega (arith, ints, ap (λ c. chosen c amount) is)
    by k false is = omega (arith, ints, ap (λ c. chosen c amount) is)

pub step_both : (first : ℕ) (amount : ℤ) (t : SystemStep) (old mid new : List ℤ) → Adds first (λ p. chosen (t.source == p) amount) old mid → Adds first (λ p. neg_ℤ (chosen (leads_to t.target p) amount)) mid new
    → Adds first (balance_of amount t) old new
step_both first amount t old mid new out into = (into.0 ∙ out.0, λ k below. omega (arith, ints, out.1 k below, into.1 k (omega (arith, out.0, below))))

-- where the first or the second of both can't be done
pub step_out : (first : ℕ) (amount : ℤ) (t : SystemStep) (old : List ℤ) → (t.target ≡ Some t.source → ⊥) → CannotPut first t.source amount old → CannotAdd first (balance_of amount t) old
step_out first amount t old other cannot =
    (t.source - first, cannot.1, λ fits. cannot.2 (subst (λ z. InRange z) (same (t.source - first) (omega (arith, cannot.0))) fits))
  where
    none : (o : Option ℕ) (p : ℕ) → (o ≡ Some p → ⊥) → leads_to o p ≡ false
    none None p apart = refl
    none (Some q) p apart = by (q == p) refl
      where
        by : (b : Bool) → (q == p) ≡ b → b ≡ false
        by true is = let eq : q ≡ p = grind (arith, nat_tests) in absurd (apart (ap Some eq))
        by false is = refl

    equal : (a b : ℕ) → a ≡ b → (a == b) ≡ true
    equal a b is = grind (arith, nat_tests)

    same : (k : ℕ) → t.source ≡ first + k → number_at old k +ℤ balance_of amount t (first + k) ≡ number_at old k +ℤ amount
    same k is = omega (arith, ints, ap (λ b. chosen b amount) (equal t.source (first + k) is), ap (λ b. chosen b amount) (none t.target (first + k) (λ leads. other (leads ∙ ap Some (sym is)))))

pub step_into : (first : ℕ) (amount : ℤ) (t : SystemStep) (old mid : List ℤ) → (t.target ≡ Some t.source → ⊥) → Adds first (λ p. chosen (t.source == p) amount) old mid → CannotTake first t.target amount mid
    → CannotAdd first (balance_of amount t) old
step_into first amount t old mid other out cannot = by t.target refl cannot
  where
    differs : (a b : ℕ) → (a ≡ b → ⊥) → (a == b) ≡ false
    differs a b apart = grind (arith, nat_tests)

    equal : (a b : ℕ) → a ≡ b → (a == b) ≡ true
    equal a b is = grind (arith, nat_tests)

    by : (o : Option ℕ) → t.target ≡ o → CannotTake first o amount mid → CannotAdd first (balance_of amount t) old
    by None leads cannot' = absurd cannot'
    by (Some q) leads cannot' =
        let k : ℕ = q - first in
        let at : q ≡ first + k = omega (arith, cannot'.0) in
        let within : k < length old = omega (arith, cannot'.1, out.0) in (
          k,
          within,
          λ fits. cannot'.2 (subst (λ z. InRange z) (omega (
            arith,
            ints,
            out.1 k within,
            ap (λ b. chosen b amount) (differs t.source (first + k) (λ same. other (leads ∙ ap Some (at ∙ sym same)))),
            ap (λ o. chosen (leads_to o (first + k)) amount) leads,
            ap (λ b. chosen b amount) (equal q (first + k) at),
          )) fits),
        )

pub step_turn : (first : ℕ) (amount : ℤ) (t : SystemStep) (old mid new : List ℤ) (b : Bool) → (t.target ≡ Some t.source → ⊥) → Adds first (λ p. chosen (t.source == p) amount) old mid
    → MatchBool b (Adds first (λ p. neg_ℤ (chosen (leads_to t.target p) amount)) mid new) (CannotTake first t.target amount mid) → IsTurn first (balance_of amount t) old new b
step_turn first amount t old mid new true other out into = step_both first amount t old mid new out into
step_turn first amount t old mid new false other out into = step_into first amount t old mid other out into

-- The balances of one step more.
pub balances_next : (steps : List SystemStep) (x : ℕ → ℤ) (first place : ℕ) (t : SystemStep) (old new : List ℤ) → slice_get steps place ≡ Some t → AreBalances steps x first place old
    → Adds first (balance_of (x place) t) old new → AreBalances steps x first (place + 1) new
balances_next steps x first place t old new at are adds k below =
    let within : k < length old = omega (arith, adds.0, below) in
    adds.1 k within ∙ ap (λ z. z +ℤ balance_of (x place) t (first + k)) (are k within) ∙ sym (sum_more (balance x (first + k)) steps place t at)

pub balances_out : (steps : List SystemStep) (x : ℕ → ℤ) (first place count : ℕ) (t : SystemStep) (old : List ℤ) → slice_get steps place ≡ Some t → length old ≡ count → AreBalances steps x first place old
    → CannotAdd first (balance_of (x place) t) old → LeavesIn steps x first count
balances_out steps x first place count t old at counted are cannot = (
  cannot.0,
  omega (arith, cannot.1, counted),
  (
    place + 1,
    λ fits. cannot.2 (subst (λ z. InRange z)
        (omega (arith, ints, sum_more (balance x (first + cannot.0)) steps place t at, are cannot.0 cannot.1)) fits),
  ),
)
