-- What a pivot makes of a row, for each linear functional.
use Rattle.std.proofs.Common.{◌≡◌, ℕ, zero, suc, ◌+◌, ◌<◌, ◌==◌, ℤ, pos, negsuc, ◌+ℤ◌, ◌-ℤ◌, ◌*ℤ◌, ◌≤ℤ◌, ◌<ℤ◌, Bool, true, false, if◌then◌else◌, List, [], ◌∷◌, get_or, length, inl, inr, ◌⊎◌, Option, None, Some, option_map, refl, sym, ap, ap₂, subst, ◌∙◌, arith}
use Rattle.std.proofs.Math.IntN.{*ℤ-zero, zero-*ℤ, *ℤ_comm}
use Rattle.std.proofs.lemmas.Bool.{cases_eq, eq-eqb, ne_eqb}
use Rattle.std.proofs.lemmas.Int.{ints}
use Rattle.std.proofs.lemmas.Option.{same_Some}
use Rattle.wc_base.proofs.Products.{cancel, monotone, only_zero}
use Rattle.wc_base.proofs.TestLemmas.{if_false, if_true}
use Rattle.wc_model.specs.Flow.Exact.{lowest, mix_row}
use Rattle.wc_model.specs.Flow.RowMachine.{entry, is_zero, reduced, reduced_others}
use Rattle.wc_simplex.specs.Inner.Reached.{IsLinear}
use Rattle.wc_simplex.proofs.LinearLemmas.{lowest_all, others_parts}
use Rattle.wc_simplex.proofs.KeepingLemmas.{lowest_width, mix_width}
use Rattle.wc_simplex.proofs.FunctionalLemmas.{entry_linear}

less_none : (x b y : ℤ) → b ≡ pos 0 → x ≡ x -ℤ b *ℤ y
less_none x b y none = omega (arith, ints, ap (λ z. z *ℤ y) none, zero-*ℤ y)

-- a number above 0
pub above_is : (x : ℤ) → pos 0 <ℤ x → (n : ℕ) × (x ≡ pos (suc n))
above_is (pos zero) above = absurd (omega (arith, ints, above))
above_is (pos (suc n)) above = (n, refl)
above_is (negsuc n) above = absurd (omega (arith, ints, above))

-- so much of the row less so much of the pivot's row, over a divisor
pub record IsReduced (j : ℕ) (row pivot new : List ℤ) : Type 0 where
  pub divisor : ℕ
  pub is : (f : List ℤ → ℤ) → IsLinear f → pos (suc divisor) *ℤ f new ≡ entry pivot j *ℤ f row -ℤ entry row j *ℤ f pivot
  pub width : length new ≡ length row

zero_entry : (x : ℤ) → is_zero x ≡ true → x ≡ pos 0
zero_entry (pos zero) is = refl
zero_entry (pos (suc n)) is = absurd (cc)
zero_entry (negsuc n) is = absurd (cc)

pub reduced_is : (j : ℕ) (row pivot new : List ℤ) → length row ≡ length pivot → pos 0 <ℤ entry pivot j → reduced j pivot row ≡ Some new → IsReduced j row pivot new
reduced_is j row pivot new same above is = by (is_zero (entry row j)) refl (mix_row (entry pivot j) (entry row j) row pivot) refl is
  where
    by : (b : Bool) → is_zero (entry row j) ≡ b → (o : Option (List ℤ)) → mix_row (entry pivot j) (entry row j) row pivot ≡ o → (if b then Some row else option_map lowest o) ≡ Some new → IsReduced j row pivot new
    by true none o mixed e =
        let stays : row ≡ new = same_Some row new e in
        let n = above_is (entry pivot j) above in
        record {
          divisor = n.0;
          is = λ f lf. ap₂ (λ a r. a *ℤ f r) (sym n.1) (sym stays) ∙ less_none (entry pivot j *ℤ f row) (entry row j) (f pivot) (zero_entry (entry row j) none);
          width = ap length (sym stays);
        }
    by false some None mixed e = absurd (cc)
    by false some (Some m) mixed e =
        let low : lowest m ≡ new = same_Some (lowest m) new e in
        let part = lowest_all m in
        record {
          divisor = part.0;
          is = λ f lf. ap (λ r. pos (suc part.0) *ℤ f r) (sym low) ∙ part.1 f lf ∙ lf.mix (entry pivot j) (entry row j) row pivot m same mixed;
          width = ap length (sym low) ∙ lowest_width m ∙ mix_width (entry pivot j) (entry row j) row pivot m same mixed;
        }

-- a row of the new tableau: the pivot's row, or one that was reduced
abbrev pub RowNow : ℕ → ℕ → List ℤ → ℕ → List ℤ → List ℤ → Type 0
RowNow r j pivot k row new = ((k ≡ r) × (new ≡ row)) ⊎ ((k ≡ r → ⊥) × (reduced j pivot row ≡ Some new))

pub row_now : (r j : ℕ) (pivot : List ℤ) (i k : ℕ) (rows new : List (List ℤ)) → k < length rows → reduced_others r j pivot i rows ≡ Some new → RowNow r j pivot (i + k) (get_or rows k []) (get_or new k [])
row_now r j pivot i k [] new within is = absurd (omega arith)
row_now r j pivot i zero (row ∷ rows) new within is =
    let parts = others_parts r j pivot i row rows new is in
    let at : i ≡ i + 0 = omega arith in
    subst (λ (n : ℕ). RowNow r j pivot n row (get_or new 0 [])) at
    (subst (λ (l : List (List ℤ)). RowNow r j pivot i row (get_or l 0 [])) (sym parts.whole) (by (cases_eq i r) parts.here))
  where
    by : (i ≡ r) ⊎ (i ≡ r → ⊥) → {head : List ℤ} → (if i == r then Some row else reduced j pivot row) ≡ Some head → RowNow r j pivot i row head
    by (inl same) {head} here = inl (same, sym (same_Some row head (sym (if_true (i == r) (Some row) (reduced j pivot row) (eq-eqb i r same)) ∙ here)))
    by (inr apart) {head} here = inr (apart, sym (if_false (i == r) (Some row) (reduced j pivot row) (ne_eqb i r apart)) ∙ here)
row_now r j pivot i (suc k) (row ∷ rows) new within is =
    let parts = others_parts r j pivot i row rows new is in
    let at : i + 1 + k ≡ i + suc k = omega arith in
    subst (λ (n : ℕ). RowNow r j pivot n (get_or rows k []) (get_or new (suc k) [])) at
    (subst (λ (l : List (List ℤ)). RowNow r j pivot (i + 1 + k) (get_or rows k []) (get_or l (suc k) [])) (sym parts.whole)
    (row_now r j pivot (i + 1) k rows parts.tail (omega arith) parts.later))

-- what a reduced row keeps
module _ (j : ℕ) (row pivot new : List ℤ) (now : IsReduced j row pivot new) where
  pub keeps_none : (f : List ℤ → ℤ) → IsLinear f → f row ≡ pos 0 → f pivot ≡ pos 0 → f new ≡ pos 0
  keeps_none f lf before none =
      only_zero now.divisor (f new)
      (omega (arith, ints, now.is f lf, ap (λ z. entry pivot j *ℤ z) before, *ℤ-zero (entry pivot j), ap (λ z. entry row j *ℤ z) none, *ℤ-zero (entry row j)))

  pub gives_none : (f : List ℤ → ℤ) → IsLinear f → pos 0 <ℤ entry pivot j → f new ≡ pos 0 → f pivot ≡ pos 0 → f row ≡ pos 0
  gives_none f lf above after none =
      let n = above_is (entry pivot j) above in
      only_zero n.0 (f row)
      (omega (arith, ints, now.is f lf, ap (λ z. pos (suc now.divisor) *ℤ z) after, *ℤ-zero (pos (suc now.divisor)), ap (λ z. entry row j *ℤ z) none, *ℤ-zero (entry row j), ap (λ a. a *ℤ f row) n.1))

  -- a row with a 0 in the column
  pub keeps_flat : (f : List ℤ → ℤ) → IsLinear f → entry row j ≡ pos 0 → f row ≡ pos 0 → f new ≡ pos 0
  keeps_flat f lf flat before =
      only_zero now.divisor (f new)
      (omega (arith, ints, now.is f lf, ap (λ z. entry pivot j *ℤ z) before, *ℤ-zero (entry pivot j), ap (λ z. z *ℤ f pivot) flat, zero-*ℤ (f pivot)))

  -- the entering column
  pub leaves_none : entry new j ≡ pos 0
  leaves_none = only_zero now.divisor (entry new j) (omega (arith, ints, now.is (λ r. entry r j) (entry_linear j), *ℤ_comm (entry pivot j) (entry row j)))

  pub keeps_above : (f : List ℤ → ℤ) → IsLinear f → pos 0 <ℤ entry pivot j → pos 0 <ℤ f row → f pivot ≡ pos 0 → pos 0 <ℤ f new
  keeps_above f lf above before none =
      let n = above_is (entry pivot j) above in
      let some = monotone (entry pivot j) (pos 1) (f row) (omega (arith, ints, above)) (omega (arith, ints, before)) in
      by (f new) (omega (arith, ints, now.is f lf, some, above, one (entry pivot j), ap (λ z. entry row j *ℤ z) none, *ℤ-zero (entry row j)))
    where
      one : (a : ℤ) → a *ℤ pos 1 ≡ a
      one a = omega (arith, ints)

      by : (x : ℤ) → pos 0 <ℤ (pos (suc now.divisor) *ℤ x) → pos 0 <ℤ x
      by (pos zero) p = absurd (omega (arith, ints, p, *ℤ-zero (pos (suc now.divisor))))
      by (pos (suc m)) p = omega (arith, ints)
      by (negsuc m) p =
          let down = monotone (pos (suc now.divisor)) (negsuc m) (pos 0) (omega (arith, ints)) (omega (arith, ints)) in
          absurd (omega (arith, ints, p, down, *ℤ-zero (pos (suc now.divisor))))

  -- a right side stays from 0 on
  pub keeps_side : (f : List ℤ → ℤ) → IsLinear f → (entry row j *ℤ f pivot) ≤ℤ (entry pivot j *ℤ f row) → pos 0 ≤ℤ f new
  keeps_side f lf least =
      cancel now.divisor (pos 0) (f new) (omega (arith, ints, now.is f lf, least, *ℤ-zero (pos (suc now.divisor))))
