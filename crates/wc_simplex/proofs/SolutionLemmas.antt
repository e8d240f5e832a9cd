-- A pivot keeps the solutions of the rows.
use Rattle.std.proofs.Common.{◌≡◌, ℕ, zero, suc, ◌+◌, ◌<◌, ◌==◌, ℤ, pos, Bool, true, false, if◌then◌else◌, List, [], ◌∷◌, get_or, set, length, Option, None, Some, option_and_then, option_map, refl, sym, ap, subst, ◌∙◌, arith}
use Rattle.std.specs.List.{AllByRecursion}
use Rattle.std.specs.Option.{IfSome}
use Rattle.std.proofs.lemmas.Bool.{eq-eqb}
use Rattle.std.proofs.lemmas.Option.{same_Some}
use Rattle.wc_base.proofs.TestLemmas.{if_true}
use Rattle.wc_model.specs.Flow.RowMachine.{Tableau, cell, entry, is_positive, pivoted, reduced, reduced_others, tableau}
use Rattle.wc_simplex.specs.declared.tableau.Machine.{Machine}
use Rattle.wc_simplex.specs.Inner.Machines.{AreWide, LeavesMachine, seen}
use Rattle.wc_simplex.specs.Solutions.{AllZero, KeepsSolutions, weighs}
use Rattle.wc_simplex.specs.Inner.Reached.{HaveWidth}
use Rattle.wc_simplex.proofs.LinearLemmas.{OthersParts, others_after, others_before, others_parts, weighs_linear}

pub zero_at : (f : List ℤ → ℤ) (rows : List (List ℤ)) (k : ℕ) → AllZero f rows → k < length rows → f (get_or rows k []) ≡ pos 0
zero_at f [] k zeros within = absurd (omega arith)
zero_at f (row ∷ rows) zero zeros within = zeros.0
zero_at f (row ∷ rows) (suc k) zeros within = zero_at f rows k zeros.1 (omega arith)

-- the pivot's row stays
others_stay : (r j : ℕ) (pivot : List ℤ) (i k : ℕ) (rows new : List (List ℤ)) → reduced_others r j pivot i rows ≡ Some new → i + k ≡ r → k < length rows → get_or new k [] ≡ get_or rows k []
others_stay r j pivot i k [] new is at within = absurd (omega arith)
others_stay r j pivot i zero (row ∷ rows) new is at within =
    let parts = others_parts r j pivot i row rows new is in
    let test : (i == r) ≡ true = eq-eqb i r (omega (arith, at)) in
    let stays : row ≡ parts.head = same_Some row parts.head (sym (if_true (i == r) (Some row) (reduced j pivot row) test) ∙ parts.here) in
    ap (λ (l : List (List ℤ)). get_or l 0 []) parts.whole ∙ sym stays
others_stay r j pivot i (suc k) (row ∷ rows) new is at within =
    let parts = others_parts r j pivot i row rows new is in
    ap (λ (l : List (List ℤ)). get_or l (suc k) []) parts.whole ∙ others_stay r j pivot (i + 1) k rows parts.tail parts.later (omega (arith, at)) (omega arith)

pub others_length : (r j : ℕ) (pivot : List ℤ) (i : ℕ) (rows new : List (List ℤ)) → reduced_others r j pivot i rows ≡ Some new → length new ≡ length rows
others_length r j pivot i [] new is =
    let empty : new ≡ [] = sym (same_Some [] new is) in
    ap length empty
others_length r j pivot i (row ∷ rows) new is =
    let parts = others_parts r j pivot i row rows new is in
    ap length parts.whole ∙ ap suc (others_length r j pivot (i + 1) rows parts.tail parts.later)

pub rows_keep : (r j : ℕ) (rows new : List (List ℤ)) → HaveWidth (length (get_or rows r [])) rows → r < length rows → is_positive (entry (get_or rows r []) j) ≡ true
    → reduced_others r j (get_or rows r []) 0 rows ≡ Some new → KeepsSolutions rows new
rows_keep r j rows new wide within above is =
    let at : 0 + r ≡ r = omega arith in
    let stays = others_stay r j (get_or rows r []) 0 r rows new is at within in
    let same = others_length r j (get_or rows r []) 0 rows new is in
    record {
      after = λ c zeros.
          others_after (weighs c 0) r j (get_or rows r []) (weighs_linear c 0) above (zero_at (weighs c 0) rows r zeros within) 0 rows new wide is zeros;
      before = λ c zeros.
          others_before (weighs c 0) r j (get_or rows r []) (weighs_linear c 0) above
          (ap (weighs c 0) (sym stays) ∙ zero_at (weighs c 0) new r zeros (omega (arith, same))) 0 rows new wide is zeros;
    }

-- the rows of a pivoted tableau
pub pivot_rows : (r j : ℕ) (t u : Tableau) → pivoted r j t ≡ Some u → reduced_others r j (get_or t.rows r []) 0 t.rows ≡ Some u.rows
pivot_rows r j t u is = by (reduced_others r j (get_or t.rows r []) 0 t.rows) (reduced j (get_or t.rows r []) t.z) (reduced j (get_or t.rows r []) t.w) is
  where
    by : (o : Option (List (List ℤ))) (p q : Option (List ℤ))
        → option_and_then (λ rows. option_and_then (λ z. option_map (λ w. tableau (set t.basis r j) rows z w) q) p) o ≡ Some u → o ≡ Some u.rows
    by None p q e = absurd (cc)
    by (Some rows) None q e = absurd (cc)
    by (Some rows) (Some z) None e = absurd (cc)
    by (Some rows) (Some z) (Some w) e = ap (λ (x : Tableau). Some x.rows) (same_Some (tableau (set t.basis r j) rows z w) u e)

pub wide_each : (width : ℕ) (rows : List (List ℤ)) → AreWide width rows → HaveWidth width rows
wide_each width [] wide = tt
wide_each width (row ∷ rows) wide = (wide 0 [] (omega arith), wide_each width rows (λ k d within. wide (suc k) d (omega (arith, within))))

pub pivot_keeps : (r j : ℕ) (old new : Machine) (width : ℕ) (o : Option (Unit {0})) (u : Unit {0}) → AreWide width old.rows.items → r < length old.rows.items
    → is_positive (cell (seen old) r j) ≡ true → LeavesMachine (pivoted r j (seen old)) o new → o ≡ Some u → KeepsSolutions old.rows.items new.rows.items
pivot_keeps r j old new width o u wide within above after made = by (pivoted r j (seen old)) refl after
  where
    by : (p : Option Tableau) → pivoted r j (seen old) ≡ p → LeavesMachine p o new → KeepsSolutions old.rows.items new.rows.items
    by None is h = absurd (cc)
    by (Some t) is h =
        let rows : new.rows.items ≡ t.rows = ap (λ (x : Tableau). x.rows) h.1 in
        let reduced_is : reduced_others r j (get_or old.rows.items r []) 0 old.rows.items ≡ Some new.rows.items = pivot_rows r j (seen old) t is ∙ ap Some (sym rows) in
        let own : width ≡ length (get_or old.rows.items r []) = sym (wide r [] within) in
        rows_keep r j old.rows.items new.rows.items (subst (λ n. HaveWidth n old.rows.items) own (wide_each width old.rows.items wide)) within above reduced_is

pub pivot_keeps_if : (r j : ℕ) (old new : Machine) (width : ℕ) (o : Option (Unit {0})) → AreWide width old.rows.items → r < length old.rows.items
    → is_positive (cell (seen old) r j) ≡ true → LeavesMachine (pivoted r j (seen old)) o new → IfSome o (λ _. KeepsSolutions old.rows.items new.rows.items)
pivot_keeps_if r j old new width None wide within above after = tt
pivot_keeps_if r j old new width (Some u) wide within above after = pivot_keeps r j old new width (Some u) u wide within above after refl

pub solutions_refl : (rows : List (List ℤ)) → KeepsSolutions rows rows
solutions_refl rows = record { after = λ c zeros. zeros; before = λ c zeros. zeros }

pub solutions_trans : (a b c : List (List ℤ)) → KeepsSolutions a b → KeepsSolutions b c → KeepsSolutions a c
solutions_trans a b c p q = record { after = λ x zeros. q.after x (p.after x zeros); before = λ x zeros. p.before x (q.before x zeros) }
