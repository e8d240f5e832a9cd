-- Goal rows as combinations of the first rows: their factors stand in the artificial columns.
use Rattle.std.proofs.Common.{◌≡◌, ℕ, zero, suc, ◌+◌, ◌<◌, ◌≤◌, ◌==◌, ℤ, pos, ◌+ℤ◌, ◌-ℤ◌, ◌*ℤ◌, neg_ℤ, ◌≤ℤ◌, List, [], ◌∷◌, get_or, length, Bool, true, false, inl, inr, ◌⊎◌, refl, sym, ap, ap₂, subst, ◌∙◌, arith}
use Rattle.std.proofs.Math.IntN.{*ℤ-zero, zero-*ℤ, *ℤ_comm}
use Rattle.std.proofs.lemmas.Bool.{cases_eq, eq-eqb, ne_eqb}
use Rattle.std.proofs.lemmas.Int.{ints}
use Rattle.wc_base.proofs.Products.{neg_times, spread, spread_left, spread_less, spread_sub, times_one}
use Rattle.wc_model.specs.Flow.RowMachine.{Shape, Tableau, cell, entry}
use Rattle.wc_model.specs.Flow.Tableaus.{one_if}
use Rattle.wc_simplex.specs.Inner.Reached.{IsLinear, IsReached}
use Rattle.wc_simplex.specs.Solutions.{AllZero}
use Rattle.wc_simplex.proofs.BeginLemmas.{IsStart, column_sum}
use Rattle.wc_simplex.proofs.FunctionalLemmas.{combined, combined_linear, entry_linear, less_linear, scale_linear}
use Rattle.wc_simplex.proofs.PivotLemmas.{zero_each}
use Rattle.wc_simplex.proofs.SolutionLemmas.{zero_at}

combined_zero : (p : ℕ) (rows : List (List ℤ)) (j : ℕ) (row : List ℤ) → ((k : ℕ) → k < length rows → entry row (p + k) ≡ pos 0) → combined p rows j row ≡ pos 0
combined_zero p [] j row none = refl
combined_zero p (r ∷ rs) j row none =
    let here : p + 0 ≡ p = omega arith in
    omega (
      arith,
      ints,
      ap (λ z. entry r j *ℤ z) (subst (λ (n : ℕ). entry row n ≡ pos 0) here (none 0 (omega arith))),
      *ℤ-zero (entry r j),
      combined_zero (suc p) rs j row (λ k within. let more : p + suc k ≡ suc p + k = omega arith in subst (λ (n : ℕ). entry row n ≡ pos 0) more (none (suc k) (omega (arith, within)))),
    )

not_first : (n : ℕ) → (suc n == 0) ≡ false
not_first n = ne_eqb (suc n) 0 (λ same. omega (arith, same))

same_next : (k i : ℕ) → (suc k == suc i) ≡ (k == i)
same_next k i = by (cases_eq k i)
  where
    by : (k ≡ i) ⊎ (k ≡ i → ⊥) → (suc k == suc i) ≡ (k == i)
    by (inl same) = eq-eqb (suc k) (suc i) (ap suc same) ∙ sym (eq-eqb k i same)
    by (inr apart) = ne_eqb (suc k) (suc i) (λ same. apart (omega (arith, same))) ∙ sym (ne_eqb k i apart)

combined_unit : (p : ℕ) (rows : List (List ℤ)) (j i : ℕ) (row : List ℤ) → i < length rows → ((k : ℕ) → k < length rows → entry row (p + k) ≡ one_if (k == i)) → combined p rows j row ≡ entry (get_or rows i []) j
combined_unit p [] j i row within units = absurd (omega arith)
combined_unit p (r ∷ rs) j zero row within units =
    let here : p + 0 ≡ p = omega arith in
    let one : entry row p ≡ pos 1 = subst (λ (n : ℕ). entry row n ≡ pos 1) here (units 0 (omega arith) ∙ ap one_if (eq-eqb 0 0 refl)) in
    omega (
      arith,
      ints,
      ap (λ z. entry r j *ℤ z) one,
      times_one (entry r j),
      combined_zero (suc p) rs j row (λ k few. let more : p + suc k ≡ suc p + k = omega arith in subst (λ (n : ℕ). entry row n ≡ pos 0) more (units (suc k) (omega (arith, few)) ∙ ap one_if (not_first k))),
    )
combined_unit p (r ∷ rs) j (suc i) row within units =
    let here : p + 0 ≡ p = omega arith in
    let none : entry row p ≡ pos 0 = subst (λ (n : ℕ). entry row n ≡ pos 0) here (units 0 (omega arith) ∙ ap one_if (ne_eqb 0 (suc i) (λ same. omega (arith, same)))) in
    omega (
      arith,
      ints,
      ap (λ z. entry r j *ℤ z) none,
      *ℤ-zero (entry r j),
      combined_unit (suc p) rs j i row (omega arith) (λ k few. let more : p + suc k ≡ suc p + k = omega arith in
          subst (λ (n : ℕ). entry row n ≡ one_if (k == i)) more (units (suc k) (omega (arith, few)) ∙ ap one_if (same_next k i))),
    )

-- prices times the entries of the rows at a column
abbrev pub priced_sum : (ℕ → ℤ) → ℕ → List (List ℤ) → ℕ → ℤ
priced_sum p k [] j = pos 0
priced_sum p k (row ∷ rows) j = p k *ℤ entry row j +ℤ priced_sum p (suc k) rows j

priced_combined : (goal : List ℤ) (real : ℕ) (base : ℤ) (k : ℕ) (rows : List (List ℤ)) (j : ℕ)
    → priced_sum (λ i. entry goal (real + i) -ℤ base) k rows j ≡ combined (real + k) rows j goal -ℤ base *ℤ column_sum rows j
priced_combined goal real base k [] j = omega (arith, ints, *ℤ-zero base)
priced_combined goal real base k (row ∷ rows) j =
    let more : real + suc k ≡ suc (real + k) = omega arith in
    omega (
      arith,
      ints,
      spread_less (entry goal (real + k)) base (entry row j),
      *ℤ_comm (entry goal (real + k)) (entry row j),
      priced_combined goal real base (suc k) rows j,
      ap (λ n. combined n rows j goal) more,
      spread_left base (entry row j) (column_sum rows j),
    )

module _ (shape : Shape) (count : ℕ) (start : Tableau) (is : IsStart shape count start) (goal0 goal : List ℤ)
    (after : (f : List ℤ → ℤ) → IsLinear f → AllZero f start.rows → f goal0 ≡ pos 0 → f goal ≡ pos 0)
    (own0 : entry goal0 (suc shape.right) ≡ pos 1) where
  -- an equation of the rows holds for a goal row as for the first one, as often as that stands in it
  pub goal_follows : (f : List ℤ → ℤ) → IsLinear f → AllZero f start.rows → f goal ≡ f goal0 *ℤ entry goal (suc shape.right)
  goal_follows f lf zeros =
      let done = after (λ row. f row -ℤ f goal0 *ℤ entry row (suc shape.right))
      (less_linear f (λ row. f goal0 *ℤ entry row (suc shape.right)) lf (scale_linear (f goal0) (λ row. entry row (suc shape.right)) (entry_linear (suc shape.right))))
      (zero_each (λ row. f row -ℤ f goal0 *ℤ entry row (suc shape.right)) start.rows
      (λ k within. omega (arith, ints, zero_at f start.rows k zeros within, ap (λ z. f goal0 *ℤ z) (is.own k (omega (arith, within, is.counted))), *ℤ-zero (f goal0))))
      (omega (arith, ints, ap (λ z. f goal0 *ℤ z) own0, times_one (f goal0))) in
      omega (arith, ints, done)

  module _ (arts0 : (k : ℕ) → k < count → entry goal0 (shape.real + k) ≡ pos 0) (j : ℕ) where
    pub goal_column : combined shape.real start.rows j goal ≡ entry goal j -ℤ entry goal0 j *ℤ entry goal (suc shape.right)
    goal_column =
        let done = goal_follows (λ row. entry row j -ℤ combined shape.real start.rows j row)
        (less_linear (λ row. entry row j) (combined shape.real start.rows j) (entry_linear j) (combined_linear shape.real start.rows j))
        (zero_each (λ row. entry row j -ℤ combined shape.real start.rows j row) start.rows
        (λ i within.
        omega (
          arith,
          ints,
          combined_unit shape.real start.rows j i (get_or start.rows i []) within (λ k few. is.units i k (omega (arith, within, is.counted)) (omega (arith, few, is.counted))),
        ))) in
        omega (
          arith,
          ints,
          done,
          spread_less (entry goal0 j) (combined shape.real start.rows j goal0) (entry goal (suc shape.right)),
          ap (λ z. z *ℤ entry goal (suc shape.right)) (combined_zero shape.real start.rows j goal0 (λ k few. arts0 k (omega (arith, few, is.counted)))),
          zero-*ℤ (entry goal (suc shape.right)),
        )

-- the prices of the rows, at a column
module _ (shape : Shape) (count : ℕ) (start t : Tableau) (is : IsStart shape count start) (reached_is : IsReached shape start t) (j : ℕ) where
  pub z_priced : priced_sum (λ k. entry t.z (shape.real + k) -ℤ pos 0) 0 start.rows j ≡ entry t.z j -ℤ entry start.z j *ℤ entry t.z (suc shape.right)
  z_priced =
      let at : shape.real + 0 ≡ shape.real = omega arith in
      omega (
        arith,
        ints,
        priced_combined t.z shape.real (pos 0) 0 start.rows j,
        zero-*ℤ (column_sum start.rows j),
        ap (λ n. combined n start.rows j t.z) at,
        goal_column shape count start is start.z t.z reached_is.follows.z_after is.own_z is.arts_z j,
      )

  pub w_priced : entry start.w j ≡ neg_ℤ (column_sum start.rows j) → priced_sum (λ k. entry t.w (shape.real + k) -ℤ entry t.w (suc shape.right)) 0 start.rows j ≡ entry t.w j
  w_priced sums =
      let at : shape.real + 0 ≡ shape.real = omega arith in
      omega (
        arith,
        ints,
        priced_combined t.w shape.real (entry t.w (suc shape.right)) 0 start.rows j,
        ap (λ n. combined n start.rows j t.w) at,
        goal_column shape count start is start.w t.w reached_is.follows.w_after is.own_w is.arts_w j,
        ap (λ z. z *ℤ entry t.w (suc shape.right)) sums,
        neg_times (column_sum start.rows j) (entry t.w (suc shape.right)),
        *ℤ_comm (column_sum start.rows j) (entry t.w (suc shape.right)),
      )
