-- Numbers that stay in the range.
use Rattle.std.proofs.Common.{◌≡◌, ℕ, ◌+◌, ◌<◌, ◌≤◌, ◌^◌, ◌-◌, ℤ, pos, negsuc, ◌*ℤ◌, ◌-ℤ◌, ◌≤ℤ◌, Bool, true, false, Option, None, Some, option_and_then, refl, sym, ap, ap₂, subst, ◌∙◌, arith}
use Rattle.std.specs.Int.RustNames.{int_div, unsigned_abs}
use Rattle.std.proofs.Math.Nat.{zero-div}
use Rattle.std.specs.Option.{SomeIff}
use Rattle.std.proofs.Math.IntN.{*ℤ-zero}
use Rattle.std.proofs.lemmas.Bool.Decides.{nat_tests}
use Rattle.std.proofs.lemmas.Int.{ints, to_z-of_z}
use Rattle.std.proofs.lemmas.Option.{cond_some}
use mir.Syntax.{w128}
use mir.Val.{SFits, of_z, to_z}
use Rattle.wc_base.specs.Arithmetic.{InRange}
use Rattle.wc_base.proofs.TestLemmas.{if_false, if_true}
use Rattle.wc_model.specs.Flow.Exact.{exact, fits, mix}

fits_in : (z : ℤ) → InRange z → fits z ≡ true
fits_in (pos n) r = grind (arith, ints, nat_tests)
fits_in (negsuc n) r = grind (arith, ints, nat_tests)

fits_out : (z : ℤ) → (InRange z → ⊥) → fits z ≡ false
fits_out (pos n) out = by (fits (pos n)) refl
  where
    by : (b : Bool) → fits (pos n) ≡ b → b ≡ false
    by false is = refl
    by true is =
        let small : n < 2 ^ 127 = grind (arith, nat_tests) in
        absurd (out (omega (arith, ints), omega (arith, ints)))
fits_out (negsuc n) out = by (fits (negsuc n)) refl
  where
    by : (b : Bool) → fits (negsuc n) ≡ b → b ≡ false
    by false is = refl
    by true is =
        let small : n + 1 < 2 ^ 127 = grind (arith, nat_tests) in
        absurd (out (omega (arith, ints), omega (arith, ints)))

pub exact_is : (z : ℤ) (o : Option ℤ) → SomeIff o (InRange z) z → o ≡ exact z
unfolding exact
exact_is z None out = sym (if_false (fits z) (Some z) None (fits_out z out))
exact_is z (Some x) within = ap Some within.1 ∙ sym (if_true (fits z) (Some z) None (fits_in z within.0))

-- what the code's operation gives of two numbers
pub exact_read : (f : ℤ → ℤ → ℤ) (a b : ℤ) (o : Option ℤ) → SFits w128 a → SFits w128 b
    → SomeIff o (InRange (f (to_z w128 (of_z w128 a)) (to_z w128 (of_z w128 b)))) (f (to_z w128 (of_z w128 a)) (to_z w128 (of_z w128 b)))
    → o ≡ exact (f a b)
exact_read f a b o fits_a fits_b is =
    exact_is (f a b) o (subst (λ z. SomeIff o (InRange z) z) (ap₂ f (to_z-of_z w128 a fits_a) (to_z-of_z w128 b fits_b)) is)

-- a number that was kept
pub kept_is : (z v : ℤ) → exact z ≡ Some v → (z ≡ v) × (unsigned_abs v < 2 ^ 127)
unfolding exact
kept_is z v is =
    let parts = cond_some (fits z) z v is in
    let same : z ≡ v = parts.1 in
    (same, subst (λ y. unsigned_abs y < 2 ^ 127) same (small z parts.0))
  where
    small : (z : ℤ) → fits z ≡ true → unsigned_abs z < 2 ^ 127
    small (pos n) is = grind (arith, nat_tests)
    small (negsuc n) is = grind (arith, nat_tests)

exact_none : (a : ℤ) → exact (a *ℤ pos 0) ≡ Some (pos 0)
unfolding exact
exact_none a = rw (*ℤ-zero a) refl

pub of_zero : (z : ℤ) → SFits w128 z → of_z w128 z ≡ 0 → z ≡ pos 0
of_zero (pos n) fits is = ap pos is
of_zero (negsuc n) fits is = let small = fits.sfits in absurd (omega (arith, is, small))

pub no_product : (a x : ℤ) → SFits w128 x → of_z w128 x ≡ 0 → Some (pos 0) ≡ exact (a *ℤ x)
no_product a x fits none = sym (ap (λ z. exact (a *ℤ z)) (of_zero x fits none) ∙ exact_none a)

-- a number that was kept is kept again
kept_again : (z v : ℤ) → exact z ≡ Some v → exact (v -ℤ pos 0) ≡ Some v
kept_again z v is =
    let same : v -ℤ pos 0 ≡ z = omega (arith, ints, (kept_is z v is).0) in
    ap exact same ∙ is

-- where nothing is taken away
pub mix_left : (a b x y : ℤ) → SFits w128 y → of_z w128 y ≡ 0 → exact (a *ℤ x) ≡ mix a b x y
mix_left a b x y fits none = sym (ap (mix a b x) (of_zero y fits none) ∙ by (exact (a *ℤ x)) refl)
  where
    by : (o : Option ℤ) → exact (a *ℤ x) ≡ o → option_and_then (λ left. option_and_then (λ right. exact (left -ℤ right)) (exact (b *ℤ pos 0))) o ≡ o
    by None is = refl
    by (Some v) is = ap (option_and_then (λ right. exact (v -ℤ right))) (exact_none b) ∙ kept_again (a *ℤ x) v is

pub no_quotient : (x : ℤ) (by : ℕ) → SFits w128 x → of_z w128 x ≡ 0 → pos 0 ≡ int_div x (pos by)
no_quotient x by fits none = sym (ap (λ z. int_div z (pos by)) (of_zero x fits none) ∙ ap pos (zero-div by))
