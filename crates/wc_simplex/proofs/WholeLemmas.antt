-- The whole machine keeps the solutions of the rows.
use Rattle.std.proofs.Common.{◌≡◌, ℕ, ◌+◌, Bool, true, false, if◌then◌else◌, length, Result, Ok, Err, refl, subst, arith}
use Rattle.std.specs.Result.{IfOk}
use Rattle.wc_model.specs.Flow.RowMachine.{Ending, Shape, Tableau, after_ending, between, best, driven, entry, infeasible, is_negative, machine, number_limit, phase, pivot_limit, reached, second_phase, unbounded}
use Rattle.wc_simplex.specs.declared.machine_end.MachineEnd.{MachineEnd}
use Rattle.wc_simplex.specs.declared.machine_end.MachineEnd.TheVariants.{Best, Infeasible, Wide, Many, Endless}
use Rattle.wc_simplex.specs.declared.tableau.Machine.{Machine}
use Rattle.wc_simplex.specs.Inner.Endings.{EndsMachine, OnEnd}
use Rattle.wc_simplex.specs.Inner.Machines.{AreWide, seen, shape_of}
use Rattle.wc_simplex.specs.Solutions.{KeepsSolutions}
use Rattle.wc_simplex.specs.Inner.Reached.{HaveWidth}
use Rattle.wc_simplex.proofs.KeepingLemmas.{Keeps, phase_keeps}
use Rattle.wc_simplex.proofs.SolutionLemmas.{solutions_trans, wide_each}
use Rattle.wc_simplex.proofs.TurningLemmas.{driven_keeps}

same_best : (t u : Tableau) → best t ≡ best u → t ≡ u
same_best t u is = cc

same_infeasible : (t u : Tableau) → infeasible t ≡ infeasible u → t ≡ u
same_infeasible t u is = cc

second_keeps : (width : ℕ) (shape : Shape) (left : ℕ) (t u : Tableau) → HaveWidth width t.rows → second_phase shape left t ≡ best u → KeepsSolutions t.rows u.rows
second_keeps width shape left t u all is = by (phase false shape left t) refl is
  where
    by : (e : Ending) → phase false shape left t ≡ e → after_ending (λ _ end. best end) e ≡ best u → KeepsSolutions t.rows u.rows
    by (reached n v) p q = subst (λ (x : Tableau). KeepsSolutions t.rows x.rows) (same_best v u q) (phase_keeps width false shape left n t v all p).solutions
    by number_limit p q = absurd (cc)
    by pivot_limit p q = absurd (cc)
    by unbounded p q = absurd (cc)

-- in the second phase nothing is found to be infeasible
second_feasible : (shape : Shape) (left : ℕ) (t u : Tableau) → second_phase shape left t ≡ infeasible u → ⊥
second_feasible shape left t u is = by (phase false shape left t) is
  where
    by : (e : Ending) → after_ending (λ _ end. best end) e ≡ infeasible u → ⊥
    by (reached n v) q = absurd (cc)
    by number_limit q = absurd (cc)
    by pivot_limit q = absurd (cc)
    by unbounded q = absurd (cc)

between_best : (width : ℕ) (shape : Shape) (left : ℕ) (t u : Tableau) → HaveWidth width t.rows → between shape left t ≡ best u → KeepsSolutions t.rows u.rows
between_best width shape left t u all is = by (is_negative (entry t.w shape.right)) (driven shape left 0 t t.rows) refl is
  where
    by : (b : Bool) (e : Ending) → driven shape left 0 t t.rows ≡ e → (if b then infeasible t else after_ending (second_phase shape) e) ≡ best u → KeepsSolutions t.rows u.rows
    by true e p q = absurd (cc)
    by false (reached n v) p q =
        let mid = driven_keeps width shape left 0 n t v t.rows all (omega arith) p in
        solutions_trans t.rows v.rows u.rows mid.solutions (second_keeps width shape n v u mid.wide q)
    by false number_limit p q = absurd (cc)
    by false pivot_limit p q = absurd (cc)
    by false unbounded p q = absurd (cc)

between_infeasible : (shape : Shape) (left : ℕ) (t u : Tableau) → between shape left t ≡ infeasible u → t ≡ u
between_infeasible shape left t u is = by (is_negative (entry t.w shape.right)) (driven shape left 0 t t.rows) is
  where
    by : (b : Bool) (e : Ending) → (if b then infeasible t else after_ending (second_phase shape) e) ≡ infeasible u → t ≡ u
    by true e q = same_infeasible t u q
    by false (reached n v) q = absurd (second_feasible shape n v u q)
    by false number_limit q = absurd (cc)
    by false pivot_limit q = absurd (cc)
    by false unbounded q = absurd (cc)

machine_best : (width : ℕ) (shape : Shape) (most : ℕ) (t u : Tableau) → HaveWidth width t.rows → machine shape most t ≡ best u → KeepsSolutions t.rows u.rows
machine_best width shape most t u all is = by (phase true shape most t) refl is
  where
    by : (e : Ending) → phase true shape most t ≡ e → after_ending (between shape) e ≡ best u → KeepsSolutions t.rows u.rows
    by (reached n v) p q =
        let first = phase_keeps width true shape most n t v all p in
        solutions_trans t.rows v.rows u.rows first.solutions (between_best width shape n v u first.wide q)
    by number_limit p q = absurd (cc)
    by pivot_limit p q = absurd (cc)
    by unbounded p q = absurd (cc)

machine_infeasible : (width : ℕ) (shape : Shape) (most : ℕ) (t u : Tableau) → HaveWidth width t.rows → machine shape most t ≡ infeasible u → KeepsSolutions t.rows u.rows
machine_infeasible width shape most t u all is = by (phase true shape most t) refl is
  where
    by : (e : Ending) → phase true shape most t ≡ e → after_ending (between shape) e ≡ infeasible u → KeepsSolutions t.rows u.rows
    by (reached n v) p q = subst (λ (x : Tableau). KeepsSolutions t.rows x.rows) (between_infeasible shape n v u q) (phase_keeps width true shape most n t v all p).solutions
    by number_limit p q = absurd (cc)
    by pivot_limit p q = absurd (cc)
    by unbounded p q = absurd (cc)

pub end_keeps : {E : Type 0} (old new : Machine) (width most : ℕ) (r : Result MachineEnd E) → AreWide width old.rows.items
    → IfOk r (λ e. EndsMachine new e (machine (shape_of old) most (seen old))) → IfOk r (λ e. OnEnd e (KeepsSolutions old.rows.items new.rows.items))
end_keeps old new width most (Err x) all ends = tt
end_keeps old new width most (Ok Best) all ends = machine_best width (shape_of old) most (seen old) (seen new) (wide_each width old.rows.items all) ends
end_keeps old new width most (Ok Infeasible) all ends = machine_infeasible width (shape_of old) most (seen old) (seen new) (wide_each width old.rows.items all) ends
end_keeps old new width most (Ok Wide) all ends = tt
end_keeps old new width most (Ok Many) all ends = tt
end_keeps old new width most (Ok Endless) all ends = tt
