-- What a pivot keeps.
use Rattle.std.proofs.Common.{◌≡◌, ℕ, zero, suc, ◌+◌, ◌<◌, ℤ, pos, negsuc, ◌-ℤ◌, ◌*ℤ◌, ◌≤ℤ◌, ◌<ℤ◌, List, [], ◌∷◌, get_or, set, length, inl, inr, ◌⊎◌, ⊎_elim, Option, None, Some, option_and_then, option_map, refl, sym, ap, ap₂, subst, ◌∙◌, arith}
use Rattle.std.proofs.Math.IntN.{*ℤ-zero, *ℤ_comm}
use Rattle.std.proofs.lemmas.Bool.{cases_eq}
use Rattle.std.proofs.lemmas.Int.{ints}
use Rattle.std.proofs.lemmas.List.{get_or-set_other, get_or-set_same, length-set}
use Rattle.std.proofs.lemmas.Option.{same_Some}
use Rattle.std.specs.List.{AllByRecursion}
use Rattle.wc_base.proofs.Products.{monotone}
use Rattle.wc_model.specs.Flow.RowMachine.{Shape, Tableau, cell, entry, pivoted, reduced, reduced_others, tableau}
use Rattle.wc_simplex.specs.Inner.Reached.{AreAbove, Follows, HaveWidth, IsAbove, IsBasic, IsLeast, IsLinear, IsReached}
use Rattle.wc_simplex.specs.Solutions.{AllZero}
use Rattle.wc_simplex.proofs.FunctionalLemmas.{entry_linear}
use Rattle.wc_simplex.proofs.KeepingLemmas.{others_wide, width_at}
use Rattle.wc_simplex.proofs.SolutionLemmas.{others_length, zero_at}
use Rattle.wc_simplex.proofs.StepLemmas.{IsReduced, RowNow, gives_none, keeps_above, keeps_none, keeps_side, leaves_none, reduced_is, row_now}

-- the parts of a pivot
pub record PivotParts (r j : ℕ) (t u : Tableau) : Type 0 where
  pub rows : reduced_others r j (get_or t.rows r []) 0 t.rows ≡ Some u.rows
  pub z : reduced j (get_or t.rows r []) t.z ≡ Some u.z
  pub w : reduced j (get_or t.rows r []) t.w ≡ Some u.w
  pub basis : u.basis ≡ set t.basis r j

pub pivot_parts : (r j : ℕ) (t u : Tableau) → pivoted r j t ≡ Some u → PivotParts r j t u
pivot_parts r j t u is =
    by (reduced_others r j (get_or t.rows r []) 0 t.rows) refl (reduced j (get_or t.rows r []) t.z) refl (reduced j (get_or t.rows r []) t.w) refl is
  where
    by : (o : Option (List (List ℤ))) → reduced_others r j (get_or t.rows r []) 0 t.rows ≡ o → (p : Option (List ℤ)) → reduced j (get_or t.rows r []) t.z ≡ p
        → (q : Option (List ℤ)) → reduced j (get_or t.rows r []) t.w ≡ q
        → option_and_then (λ rows. option_and_then (λ z. option_map (λ w. tableau (set t.basis r j) rows z w) q) p) o ≡ Some u → PivotParts r j t u
    by None a p b q c e = absurd (cc)
    by (Some rows) a None b q c e = absurd (cc)
    by (Some rows) a (Some z) b None c e = absurd (cc)
    by (Some rows) a (Some z) b (Some w) c e =
        let same : tableau (set t.basis r j) rows z w ≡ u = same_Some (tableau (set t.basis r j) rows z w) u e in
        record {
          rows = a ∙ ap (λ (x : Tableau). Some x.rows) same;
          z = b ∙ ap (λ (x : Tableau). Some x.z) same;
          w = c ∙ ap (λ (x : Tableau). Some x.w) same;
          basis = ap (λ (x : Tableau). x.basis) (sym same);
        }

-- a functional is 0 at each row, by places
pub zero_each : (f : List ℤ → ℤ) (rows : List (List ℤ)) → ((k : ℕ) → k < length rows → f (get_or rows k []) ≡ pos 0) → AllZero f rows
zero_each f [] each = tt
zero_each f (row ∷ rows) each = (each 0 (omega arith), zero_each f rows (λ k within. each (suc k) (omega (arith, within))))

module _ (shape : Shape) (r j : ℕ) (start t u : Tableau) (is_basic : IsBasic shape t) (follows : Follows shape start t) (there : r < length t.rows)
    (above : pos 0 <ℤ cell t r j) (is : pivoted r j t ≡ Some u) where
  pivot : List ℤ
  pivot = get_or t.rows r []

  parts : PivotParts r j t u
  parts = pivot_parts r j t u is

  pivot_wide : length (get_or t.rows r []) ≡ shape.right + 2
  pivot_wide = width_at (shape.right + 2) t.rows r follows.wide there

  pub same_count : length u.rows ≡ length t.rows
  same_count = others_length r j (get_or t.rows r []) 0 t.rows u.rows parts.rows

  -- each row, and the goal rows
  now : (k : ℕ) → k < length t.rows → RowNow r j (get_or t.rows r []) k (get_or t.rows k []) (get_or u.rows k [])
  now k within =
      let at : 0 + k ≡ k = omega arith in
      subst (λ (n : ℕ). RowNow r j (get_or t.rows r []) n (get_or t.rows k []) (get_or u.rows k [])) at (row_now r j (get_or t.rows r []) 0 k t.rows u.rows within parts.rows)

  reduces : (k : ℕ) → k < length t.rows → reduced j (get_or t.rows r []) (get_or t.rows k []) ≡ Some (get_or u.rows k []) → IsReduced j (get_or t.rows k []) (get_or t.rows r []) (get_or u.rows k [])
  reduces k within e = reduced_is j (get_or t.rows k []) (get_or t.rows r []) (get_or u.rows k []) (width_at (shape.right + 2) t.rows k follows.wide within ∙ sym pivot_wide) above e

  z_now : IsReduced j t.z (get_or t.rows r []) u.z
  z_now = reduced_is j t.z (get_or t.rows r []) u.z (follows.wide_z ∙ sym pivot_wide) above parts.z

  w_now : IsReduced j t.w (get_or t.rows r []) u.w
  w_now = reduced_is j t.w (get_or t.rows r []) u.w (follows.wide_w ∙ sym pivot_wide) above parts.w

  pub stays : (k : ℕ) → k < length t.rows → k ≡ r → get_or u.rows k [] ≡ get_or t.rows k []
  stays k within same = by (now k within)
    where
      by : RowNow r j (get_or t.rows r []) k (get_or t.rows k []) (get_or u.rows k []) → get_or u.rows k [] ≡ get_or t.rows k []
      by (inl e) = e.1
      by (inr e) = absurd (e.0 same)

  pub other : (k : ℕ) → k < length t.rows → (k ≡ r → ⊥) → IsReduced j (get_or t.rows k []) (get_or t.rows r []) (get_or u.rows k [])
  other k within apart = by (now k within)
    where
      by : RowNow r j (get_or t.rows r []) k (get_or t.rows k []) (get_or u.rows k []) → IsReduced j (get_or t.rows k []) (get_or t.rows r []) (get_or u.rows k [])
      by (inl e) = absurd (apart e.0)
      by (inr e) = reduces k within e.1

  -- what the rows say of any functional
  row_after : (f : List ℤ → ℤ) → IsLinear f → f (get_or t.rows r []) ≡ pos 0 → (k : ℕ) → k < length t.rows → f (get_or t.rows k []) ≡ pos 0 → f (get_or u.rows k []) ≡ pos 0
  row_after f lf none k within before =
      ⊎_elim (λ (same : k ≡ r). ap f (stays k within same) ∙ before)
      (λ (apart : k ≡ r → ⊥). keeps_none j (get_or t.rows k []) (get_or t.rows r []) (get_or u.rows k []) (other k within apart) f lf before none) (cases_eq k r)

  row_before : (f : List ℤ → ℤ) → IsLinear f → f (get_or t.rows r []) ≡ pos 0 → (k : ℕ) → k < length t.rows → f (get_or u.rows k []) ≡ pos 0 → f (get_or t.rows k []) ≡ pos 0
  row_before f lf none k within after =
      ⊎_elim (λ (same : k ≡ r). ap f (sym (stays k within same)) ∙ after)
      (λ (apart : k ≡ r → ⊥). gives_none j (get_or t.rows k []) (get_or t.rows r []) (get_or u.rows k []) (other k within apart) f lf above after none) (cases_eq k r)

  rows_after : (f : List ℤ → ℤ) → IsLinear f → AllZero f t.rows → AllZero f u.rows
  rows_after f lf zeros =
      zero_each f u.rows (λ k within. row_after f lf (zero_at f t.rows r zeros there) k (omega (arith, within, same_count)) (zero_at f t.rows k zeros (omega (arith, within, same_count))))

  rows_before : (f : List ℤ → ℤ) → IsLinear f → AllZero f u.rows → AllZero f t.rows
  rows_before f lf zeros =
      let none : f (get_or t.rows r []) ≡ pos 0 = ap f (sym (stays r there refl)) ∙ zero_at f u.rows r zeros (omega (arith, there, same_count)) in
      zero_each f t.rows (λ k within. row_before f lf none k within (zero_at f u.rows k zeros (omega (arith, within, same_count))))

  own_none : entry (get_or t.rows r []) (suc shape.right) ≡ pos 0
  own_none = zero_at (λ row. entry row (suc shape.right)) t.rows r follows.own there

  pub pivot_follows : Follows shape start u
  pivot_follows =
      record {
        count = same_count ∙ follows.count;
        wide = subst (λ n. HaveWidth n u.rows) pivot_wide (others_wide r j (get_or t.rows r []) 0 t.rows u.rows (subst (λ n. HaveWidth n t.rows) (sym pivot_wide) follows.wide) parts.rows);
        wide_z = z_now.width ∙ follows.wide_z;
        wide_w = w_now.width ∙ follows.wide_w;
        after = λ f lf zeros. rows_after f lf (follows.after f lf zeros);
        before = λ f lf zeros. follows.before f lf (rows_before f lf zeros);
        z_after = λ f lf zeros none. keeps_none j t.z (get_or t.rows r []) u.z z_now f lf (follows.z_after f lf zeros none) (zero_at f t.rows r (follows.after f lf zeros) there);
        w_after = λ f lf zeros none. keeps_none j t.w (get_or t.rows r []) u.w w_now f lf (follows.w_after f lf zeros none) (zero_at f t.rows r (follows.after f lf zeros) there);
        own = rows_after (λ row. entry row (suc shape.right)) (entry_linear (suc shape.right)) follows.own;
        own_z = keeps_above j t.z (get_or t.rows r []) u.z z_now (λ row. entry row (suc shape.right)) (entry_linear (suc shape.right)) above follows.own_z own_none;
        own_w = keeps_above j t.w (get_or t.rows r []) u.w w_now (λ row. entry row (suc shape.right)) (entry_linear (suc shape.right)) above follows.own_w own_none;
      }

  -- the basis column of a row
  pub basis_same : get_or u.basis r 0 ≡ j
  basis_same = ap (λ l. get_or l r 0) parts.basis ∙ get_or-set_same t.basis r j 0 (omega (arith, there, is_basic.bases))

  pub basis_other : (k : ℕ) → (k ≡ r → ⊥) → get_or u.basis k 0 ≡ get_or t.basis k 0
  basis_other k apart = ap (λ l. get_or l k 0) parts.basis ∙ get_or-set_other t.basis r k j 0 apart

  -- 0 at a basis column, for a row that is reduced
  none_now : (k : ℕ) → k < length t.rows → (row new : List ℤ) → IsReduced j row (get_or t.rows r []) new → ((k ≡ r → ⊥) → entry row (get_or t.basis k 0) ≡ pos 0) → entry new (get_or u.basis k 0) ≡ pos 0
  none_now k within row new red before =
      ⊎_elim
      (λ (same : k ≡ r). ap (λ n. entry new (get_or u.basis n 0)) same ∙ ap (λ m. entry new m) basis_same ∙ leaves_none j row (get_or t.rows r []) new red)
      (λ (apart : k ≡ r → ⊥).
      ap (λ m. entry new m) (basis_other k apart)
      ∙ keeps_none j row (get_or t.rows r []) new red (λ l. entry l (get_or t.basis k 0)) (entry_linear (get_or t.basis k 0)) (before apart) (is_basic.apart r k there within (λ same. apart (sym same))))
      (cases_eq k r)

  apart_now : (i k : ℕ) → i < length t.rows → k < length t.rows → (i ≡ k → ⊥) → cell u i (get_or u.basis k 0) ≡ pos 0
  apart_now i k within_i within_k apart =
      ⊎_elim
      (λ (same : i ≡ r).
      ap (λ row. entry row (get_or u.basis k 0)) (stays i within_i same)
      ∙ ap (λ m. cell t i m) (basis_other k (λ other_same. apart (same ∙ sym other_same))) ∙ is_basic.apart i k within_i within_k apart)
      (λ (off : i ≡ r → ⊥). none_now k within_k (get_or t.rows i []) (get_or u.rows i []) (other i within_i off) (λ e. is_basic.apart i k within_i within_k apart))
      (cases_eq i r)

  -- the entries above 0, where those of the other rows were
  pub pivot_above : ((k : ℕ) → k < length t.rows → (k ≡ r → ⊥) → IsAbove t k) → AreAbove u
  pivot_above before k within_u =
      let within : k < length t.rows = omega (arith, within_u, same_count) in
      ⊎_elim
      (λ (same : k ≡ r).
      subst (λ (z : ℤ). pos 0 <ℤ z)
      (sym (ap (λ row. entry row (get_or u.basis k 0)) (stays k within same) ∙ ap₂ (λ n m. cell t n (get_or u.basis m 0)) same same ∙ ap (λ m. cell t r m) basis_same)) above)
      (λ (apart : k ≡ r → ⊥).
      subst (λ (m : ℕ). pos 0 <ℤ cell u k m) (sym (basis_other k apart))
      (keeps_above j (get_or t.rows k []) (get_or t.rows r []) (get_or u.rows k []) (other k within apart) (λ l. entry l (get_or t.basis k 0)) (entry_linear (get_or t.basis k 0))
      above (before k within apart) (is_basic.apart r k there within (λ same. apart (sym same)))))
      (cases_eq k r)

  -- the right sides, where the least one leaves
  pub pivot_basic : j < shape.right → IsLeast shape t r j → IsBasic shape u
  pivot_basic inside least =
      record {
        bases = ap length parts.basis ∙ length-set t.basis r j ∙ is_basic.bases ∙ sym same_count;
        inside = λ k within_u.
            let within : k < length t.rows = omega (arith, within_u, same_count) in
            ⊎_elim (λ (same : k ≡ r). subst (λ (m : ℕ). m < shape.right) (sym (ap (λ n. get_or u.basis n 0) same ∙ basis_same)) inside)
            (λ (apart : k ≡ r → ⊥). subst (λ (m : ℕ). m < shape.right) (sym (basis_other k apart)) (is_basic.inside k within)) (cases_eq k r);
        apart = λ i k within_i within_k apart. apart_now i k (omega (arith, within_i, same_count)) (omega (arith, within_k, same_count)) apart;
        z_none = λ k within. none_now k (omega (arith, within, same_count)) t.z u.z z_now (λ apart. is_basic.z_none k (omega (arith, within, same_count)));
        w_none = λ k within. none_now k (omega (arith, within, same_count)) t.w u.w w_now (λ apart. is_basic.w_none k (omega (arith, within, same_count)));
        sides = λ k within_u.
            let within : k < length t.rows = omega (arith, within_u, same_count) in
            ⊎_elim (λ (same : k ≡ r). subst (λ (row : List ℤ). pos 0 ≤ℤ entry row shape.right) (sym (stays k within same)) (is_basic.sides k within))
            (λ (apart : k ≡ r → ⊥).
            keeps_side j (get_or t.rows k []) (get_or t.rows r []) (get_or u.rows k []) (other k within apart) (λ l. entry l shape.right) (entry_linear shape.right)
            (ratio k within (cell t k j) refl)) (cases_eq k r);
      }
    where
      ratio : (k : ℕ) → k < length t.rows → (b : ℤ) → cell t k j ≡ b → (cell t k j *ℤ cell t r shape.right) ≤ℤ (cell t r j *ℤ cell t k shape.right)
      ratio k within b same = by b same
        where
          -- a row without an entry above 0
          flat : cell t k j ≤ℤ pos 0 → (cell t k j *ℤ cell t r shape.right) ≤ℤ (cell t r j *ℤ cell t k shape.right)
          flat low =
              let right = monotone (cell t r j) (pos 0) (cell t k shape.right) (omega (arith, ints, above)) (is_basic.sides k within) in
              let left = monotone (cell t r shape.right) (cell t k j) (pos 0) (is_basic.sides r there) low in
              omega (arith, ints, right, left, *ℤ-zero (cell t r j), *ℤ-zero (cell t r shape.right), *ℤ_comm (cell t r shape.right) (cell t k j))

          by : (c : ℤ) → cell t k j ≡ c → (cell t k j *ℤ cell t r shape.right) ≤ℤ (cell t r j *ℤ cell t k shape.right)
          by (pos zero) e = flat (omega (arith, ints, e))
          by (pos (suc n)) e = least k within (omega (arith, ints, e))
          by (negsuc n) e = flat (omega (arith, ints, e))
