-- The greatest common divisor of a row.
use Rattle.std.proofs.Common.{◌≡◌, ℕ, zero, suc, ◌+◌, ◌<◌, ◌%◌, ℤ, pos, List, [], ◌∷◌, length, get_or, drop, refl, sym, ap, ◌∙◌, arith}
use Rattle.std.specs.Int.{IsGcd}
use Rattle.std.specs.Int.RustNames.{unsigned_abs}
use Rattle.std.proofs.lemmas.List.{at_drop_more}
use mir.Syntax.{w128}
use mir.Val.{SFits, of_z}
use Rattle.std.proofs.lemmas.Nat.Gcd.{IsGcd-from_mod, IsGcd-from_zero, dvd_of_mod-eq-zero, dvd_refl, same_from_IsGcd}
use Rattle.wc_model.specs.Flow.Exact.{gcd, gcd_within, row_gcd}
use Rattle.wc_simplex.proofs.ExactLemmas.{of_zero}

within_is : (n a b : ℕ) → b < n → IsGcd a b (gcd_within n a b)
within_is zero a b few = absurd (omega arith)
within_is (suc n) a zero few = IsGcd-from_zero a 0 refl
within_is (suc n) a (suc b) few = IsGcd-from_mod a (suc b) (gcd_within n (suc b) (a % suc b)) (within_is n (suc b) (a % suc b) (omega arith))

pub gcd_is : (a b : ℕ) → IsGcd a b (gcd a b)
unfolding gcd
gcd_is a b = within_is (b + 1) a b (omega arith)

pub same_gcd : (a b g : ℕ) → IsGcd a b g → g ≡ gcd a b
same_gcd a b g is = same_from_IsGcd a b g (gcd a b) is (gcd_is a b)

within_small : (n a b most : ℕ) → a < most → b < most → gcd_within n a b < most
within_small zero a b most few_a few_b = few_a
within_small (suc n) a zero most few_a few_b = few_a
within_small (suc n) a (suc b) most few_a few_b = within_small n (suc b) (a % suc b) most few_b (omega arith)

pub gcd_small : (a b most : ℕ) → a < most → b < most → gcd a b < most
unfolding gcd
gcd_small a b most few_a few_b = within_small (b + 1) a b most few_a few_b

gcd_one : (x : ℕ) → gcd 1 x ≡ 1
gcd_one x = same_from_IsGcd 1 x (gcd 1 x) 1 (gcd_is 1 x) (dvd_refl 1, dvd_of_mod-eq-zero 1 (omega arith), λ d first other. first)

-- from 1 on it stays
pub row_gcd_one : (row : List ℤ) → row_gcd 1 row ≡ 1
row_gcd_one [] = refl
row_gcd_one (x ∷ xs) = ap (λ g. row_gcd g xs) (gcd_one (unsigned_abs x)) ∙ row_gcd_one xs

-- once it is 1
pub found_one : (row : List ℤ) (i found next : ℕ) → i < length row → row_gcd found (drop i row) ≡ row_gcd 0 row → next ≡ gcd found (unsigned_abs (get_or row i (pos 0))) → next ≡ 1 → 1 ≡ row_gcd 0 row
found_one row i found next within so_far is_next one =
    let here : gcd found (unsigned_abs (get_or row i (pos 0))) ≡ 1 = sym is_next ∙ one in
    sym (row_gcd_one (drop (i + 1) row)) ∙ sym (ap (λ g. row_gcd g (drop (i + 1) row)) here) ∙ sym (at_drop_more (row_gcd found) row i (pos 0) within) ∙ so_far

gcd_none : (g : ℕ) → g ≡ gcd g 0
unfolding gcd
gcd_none g = refl

pub gcd_kept : (g : ℕ) (x : ℤ) → SFits w128 x → of_z w128 x ≡ 0 → g ≡ gcd g (unsigned_abs x)
gcd_kept g x fits none = gcd_none g ∙ sym (ap (λ z. gcd g (unsigned_abs z)) (of_zero x fits none))
