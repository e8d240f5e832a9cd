-- A phase keeps the solutions of the rows.
use Rattle.std.proofs.Common.{◌≡◌, ℕ, zero, suc, ◌+◌, ◌<◌, ◌==◌, nat_le, ℤ, pos, Bool, true, false, if◌then◌else◌, List, [], ◌∷◌, get_or, set, drop, map, length, Option, None, Some, option_and_then, option_map, refl, sym, ap, subst, ◌∙◌, arith}
use Rattle.std.specs.List.{AllByRecursion}
use Rattle.std.specs.Option.{IfSome}
use Rattle.std.proofs.lemmas.List.{length-map}
use Rattle.std.proofs.lemmas.Option.{same_Some}
use Rattle.std.specs.Int.RustNames.{int_div}
use Rattle.wc_model.specs.Flow.Exact.{lowest, mix_row, row_gcd}
use Rattle.wc_model.specs.Flow.RowMachine.{Choice, Ending, Shape, Tableau, after_choice, after_pivot, beats, better, cell, choice, choice_at, choice_of, entering, entry, finished, goal_row, is_positive, is_zero, leaving_from, no_row, number_limit, phase, pivot_limit, pivoted, pivots, reached, reduced, reduced_others, too_wide, unbounded}
use Rattle.wc_simplex.specs.Solutions.{KeepsSolutions}
use Rattle.wc_simplex.specs.Inner.Reached.{HaveWidth}
use Rattle.wc_simplex.proofs.LinearLemmas.{OthersParts, others_parts}
use Rattle.wc_simplex.proofs.RowLemmas.{mixes_cons}
use Rattle.wc_simplex.proofs.SolutionLemmas.{pivot_rows, rows_keep, solutions_refl, solutions_trans}

-- widths
pub mix_width : (a b : ℤ) (row pivot new : List ℤ) → length row ≡ length pivot → mix_row a b row pivot ≡ Some new → length new ≡ length row
mix_width a b [] [] new same is =
    let empty : new ≡ [] = sym (same_Some [] new is) in
    ap length empty
mix_width a b [] (y ∷ ys) new same is = absurd (omega arith)
mix_width a b (x ∷ xs) [] new same is = absurd (omega arith)
mix_width a b (x ∷ xs) (y ∷ ys) new same is =
    let parts = mixes_cons a b x y xs ys new is in
    ap length parts.whole ∙ ap suc (mix_width a b xs ys parts.tail (omega arith) parts.later)

pub lowest_width : (row : List ℤ) → length (lowest row) ≡ length row
lowest_width row = by (nat_le (row_gcd 0 row) 1)
  where
    by : (b : Bool) → length (if b then row else map (λ x. int_div x (pos (row_gcd 0 row))) row) ≡ length row
    by true = refl
    by false = length-map row (λ x. int_div x (pos (row_gcd 0 row)))

row_width : (b : Bool) (j : ℕ) (row pivot new : List ℤ) → length row ≡ length pivot → (if b then Some row else reduced j pivot row) ≡ Some new → length new ≡ length row
row_width true j row pivot new same is = ap length (sym (same_Some row new is))
row_width false j row pivot new same is = by (is_zero (entry row j)) (mix_row (entry pivot j) (entry row j) row pivot) refl is
  where
    by : (b : Bool) (o : Option (List ℤ)) → mix_row (entry pivot j) (entry row j) row pivot ≡ o → (if b then Some row else option_map lowest o) ≡ Some new → length new ≡ length row
    by true o mixed e = ap length (sym (same_Some row new e))
    by false None mixed e = absurd (cc)
    by false (Some m) mixed e = ap length (sym (same_Some (lowest m) new e)) ∙ lowest_width m ∙ mix_width (entry pivot j) (entry row j) row pivot m same mixed

pub others_wide : (r j : ℕ) (pivot : List ℤ) (i : ℕ) (rows new : List (List ℤ)) → HaveWidth (length pivot) rows → reduced_others r j pivot i rows ≡ Some new → HaveWidth (length pivot) new
others_wide r j pivot i [] new wide is = subst (λ (l : List (List ℤ)). HaveWidth (length pivot) l) (same_Some [] new is) tt
others_wide r j pivot i (row ∷ rows) new wide is =
    let parts = others_parts r j pivot i row rows new is in
    subst (λ (l : List (List ℤ)). HaveWidth (length pivot) l) (sym parts.whole)
    (row_width (i == r) j row pivot parts.head wide.0 parts.here ∙ wide.0, others_wide r j pivot (i + 1) rows parts.tail wide.1 parts.later)

pub width_at : (width : ℕ) (rows : List (List ℤ)) (k : ℕ) → HaveWidth width rows → k < length rows → length (get_or rows k []) ≡ width
width_at width [] k wide within = absurd (omega arith)
width_at width (row ∷ rows) zero wide within = wide.0
width_at width (row ∷ rows) (suc k) wide within = width_at width rows k wide.1 (omega arith)

-- what steps keep of the rows
pub record Keeps (width : ℕ) (old new : List (List ℤ)) : Type 0 where
  pub solutions : KeepsSolutions old new
  pub wide : HaveWidth width new

keeps_none : (width : ℕ) (rows : List (List ℤ)) → HaveWidth width rows → Keeps width rows rows
keeps_none width rows wide = record { solutions = solutions_refl rows; wide = wide }

pub pivot_keeps_rows : (width r j : ℕ) (t u : Tableau) → HaveWidth width t.rows → r < length t.rows → is_positive (cell t r j) ≡ true → pivoted r j t ≡ Some u → Keeps width t.rows u.rows
pivot_keeps_rows width r j t u wide within above is =
    let own : width ≡ length (get_or t.rows r []) = sym (width_at width t.rows r wide within) in
    let there : HaveWidth (length (get_or t.rows r [])) t.rows = subst (λ n. HaveWidth n t.rows) own wide in
    let rows = pivot_rows r j t u is in
    record {
      solutions = rows_keep r j t.rows u.rows there within above rows;
      wide = subst (λ n. HaveWidth n u.rows) (sym own) (others_wide r j (get_or t.rows r []) 0 t.rows u.rows there rows);
    }

-- A row that leaves is there, and its entry is above 0.
abbrev pub MayLeave : Tableau → ℕ → ℕ → Type 0
MayLeave t j r = (r < length t.rows) × (is_positive (cell t r j) ≡ true)

pub at_drop : (xs : List (List ℤ)) (i : ℕ) (x : List ℤ) (ys : List (List ℤ)) → drop i xs ≡ x ∷ ys → (i < length xs) × (get_or xs i [] ≡ x) × (drop (suc i) xs ≡ ys)
at_drop [] zero x ys is = absurd (cc)
at_drop [] (suc i) x ys is = absurd (cc)
at_drop (z ∷ zs) zero x ys is =
    let head : z ≡ x = cc in
    let tail : zs ≡ ys = cc in
    (omega arith, head, tail)
at_drop (z ∷ zs) (suc i) x ys is =
    let rest = at_drop zs i x ys is in
    (omega (arith, rest.0), rest.1, rest.2)

better_leaves : (shape : Shape) (t : Tableau) (j i : ℕ) (best now : Option ℕ) → MayLeave t j i → IfSome best (MayLeave t j) → better shape t j best i ≡ Some now → IfSome now (MayLeave t j)
better_leaves shape t j i None now own other is = subst (λ (o : Option ℕ). IfSome o (MayLeave t j)) (same_Some (Some i) now is) own
better_leaves shape t j i (Some b) now own other is = by (beats shape t j i b) is
  where
    by : (o : Option Bool) → option_map (λ beaten. if beaten then Some i else Some b) o ≡ Some now → IfSome now (MayLeave t j)
    by None e = absurd (cc)
    by (Some true) e = subst (λ (p : Option ℕ). IfSome p (MayLeave t j)) (same_Some (Some i) now e) own
    by (Some false) e = subst (λ (p : Option ℕ). IfSome p (MayLeave t j)) (same_Some (Some b) now e) other

leaves_from : (shape : Shape) (t : Tableau) (j i : ℕ) (best : Option ℕ) (later : List (List ℤ)) (r : ℕ) → drop i t.rows ≡ later → IfSome best (MayLeave t j)
    → leaving_from shape t j i best later ≡ Some (Some r) → MayLeave t j r
leaves_from shape t j i best [] r at found is = subst (λ (o : Option ℕ). IfSome o (MayLeave t j)) (same_Some best (Some r) is) found
leaves_from shape t j i best (row ∷ rows) r at found is =
    by (is_positive (entry row j)) refl (better shape t j best i) refl (λ now ok e. leaves_from shape t j (i + 1) now rows r next ok e) is
  where
    here : (i < length t.rows) × (get_or t.rows i [] ≡ row) × (drop (suc i) t.rows ≡ rows)
    here = at_drop t.rows i row rows at

    next : drop (i + 1) t.rows ≡ rows
    next = let one : i + 1 ≡ suc i = omega arith in ap (λ n. drop n t.rows) one ∙ here.2

    by : (b : Bool) → is_positive (entry row j) ≡ b → (o : Option (Option ℕ)) → better shape t j best i ≡ o
        → ((now : Option ℕ) → IfSome now (MayLeave t j) → leaving_from shape t j (i + 1) now rows ≡ Some (Some r) → MayLeave t j r)
        → option_and_then (λ now. leaving_from shape t j (i + 1) now rows) (if b then o else Some best) ≡ Some (Some r) → MayLeave t j r
    by true above None p go e = absurd (cc)
    by true above (Some now) p go e =
        go now (better_leaves shape t j i best now (here.0, ap (λ x. is_positive (entry x j)) here.1 ∙ above) found p) e
    by false above o p go e = go best found e

leaves : (shape : Shape) (goal : List ℤ) (t : Tableau) (r j : ℕ) → choice shape goal t ≡ pivots r j → MayLeave t j r
leaves shape goal t r j is = by (entering shape goal) is
  where
    at : (k : ℕ) (o : Option (Option ℕ)) → leaving_from shape t k 0 None t.rows ≡ o → choice_at k o ≡ pivots r j → MayLeave t j r
    at k None p e = absurd (cc)
    at k (Some None) p e = absurd (cc)
    at k (Some (Some q)) p e =
        let row : q ≡ r = cc in
        let column : k ≡ j = cc in
        subst (λ n. MayLeave t n r) column (subst (λ n. MayLeave t k n) row (leaves_from shape t k 0 None t.rows q refl tt p))

    by : (o : Option ℕ) → choice_of shape t o ≡ pivots r j → MayLeave t j r
    by None e = absurd (cc)
    by (Some k) e = at k (leaving_from shape t k 0 None t.rows) refl e

same_reached : (m n : ℕ) (t u : Tableau) → reached m t ≡ reached n u → t ≡ u
same_reached m n t u is = cc

-- A phase that reaches a tableau keeps the solutions.
pub phase_keeps : (width : ℕ) (first : Bool) (shape : Shape) (left n : ℕ) (t u : Tableau) → HaveWidth width t.rows → phase first shape left t ≡ reached n u → Keeps width t.rows u.rows
unfolding phase
phase_keeps width first shape zero n t u wide is = by (choice shape (goal_row first t) t) is
  where
    by : (c : Choice) → after_choice (reached 0 t) (λ r j. pivot_limit) c ≡ reached n u → Keeps width t.rows u.rows
    by finished e = subst (λ (x : Tableau). Keeps width t.rows x.rows) (same_reached 0 n t u e) (keeps_none width t.rows wide)
    by too_wide e = absurd (cc)
    by (no_row j) e = absurd (cc)
    by (pivots r j) e = absurd (cc)
phase_keeps width first shape (suc left) n t u wide is =
    by (choice shape (goal_row first t) t) refl (λ later ok e. phase_keeps width first shape left n later u ok e) is
  where
    pivot : (r j : ℕ) (o : Option Tableau) → pivoted r j t ≡ o → MayLeave t j r
        → ((later : Tableau) → HaveWidth width later.rows → phase first shape left later ≡ reached n u → Keeps width later.rows u.rows)
        → after_pivot (phase first shape left) o ≡ reached n u → Keeps width t.rows u.rows
    pivot r j None p may go e = absurd (cc)
    pivot r j (Some later) p may go e =
        let one = pivot_keeps_rows width r j t later wide may.0 may.1 p in
        let rest = go later one.wide e in
        record { solutions = solutions_trans t.rows later.rows u.rows one.solutions rest.solutions; wide = rest.wide }

    by : (c : Choice) → choice shape (goal_row first t) t ≡ c
        → ((later : Tableau) → HaveWidth width later.rows → phase first shape left later ≡ reached n u → Keeps width later.rows u.rows)
        → after_choice (reached (suc left) t) (λ r j. after_pivot (phase first shape left) (pivoted r j t)) c ≡ reached n u → Keeps width t.rows u.rows
    by finished q go e = subst (λ (x : Tableau). Keeps width t.rows x.rows) (same_reached (suc left) n t u e) (keeps_none width t.rows wide)
    by too_wide q go e = absurd (cc)
    by (no_row j) q go e = absurd (cc)
    by (pivots r j) q go e = pivot r j (pivoted r j t) refl (leaves shape (goal_row first t) t r j q) go e
