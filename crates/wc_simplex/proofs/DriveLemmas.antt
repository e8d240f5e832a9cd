-- One row between the phases.
use Rattle.std.proofs.Common.{◌≡◌, ℕ, zero, suc, ◌+◌, ◌-◌, ◌<◌, ◌≤◌, ℤ, Bool, true, false, not, nat_lt, if◌then◌else◌, List, [], ◌∷◌, get_or, take, drop, length, Option, None, Some, option_and_then, refl, sym, ap, ap₂, subst, ◌∙◌, arith}
use Rattle.std.proofs.lemmas.Bool.Decides.{nat_tests}
use Rattle.std.proofs.lemmas.List.{drop_all, drop_more}
use Rattle.wc_base.proofs.TestLemmas.{if_false, if_true}
use Rattle.wc_model.specs.Flow.RowMachine.{Ending, Shape, Tableau, after_pivot, driven, driven_at, is_real, is_zero, number_limit, pivot_limit, pivoted, place_from, reached, turned, unbounded}
use Rattle.wc_simplex.specs.declared.tableau.Machine.{Machine}
use Rattle.wc_simplex.specs.declared.ending.Ending as code
use Rattle.wc_simplex.specs.declared.ending.Ending.TheVariants as variants
use Rattle.wc_simplex.specs.Inner.Endings.{Ends, EndsOnce, driven_once}
use Rattle.wc_simplex.specs.Inner.Machines.{KeepsShape, LeavesMachine, seen, shape_of}
use Rattle.wc_simplex.proofs.PhaseLemmas.{same_shape}

abbrev column_of : Shape → ℕ → Tableau → Option ℕ
column_of shape i t = place_from (λ x. not (is_zero x)) 0 (take shape.real (get_or t.rows i []))

module _ (shape : Shape) (left i : ℕ) (t : Tableau) (goes : ℕ → Tableau → Ending) where
  pub once_real : get_or t.basis i 0 < shape.real → driven_once shape left i t goes ≡ goes left t
  once_real within =
      let test : nat_lt (get_or t.basis i 0) shape.real ≡ true = grind (arith, nat_tests) in
      if_true (nat_lt (get_or t.basis i 0) shape.real) (goes left t) (driven_at goes left i t (column_of shape i t)) test

  once_at : (get_or t.basis i 0 < shape.real → ⊥) → (o : Option ℕ) → o ≡ column_of shape i t → driven_once shape left i t goes ≡ driven_at goes left i t o
  once_at beyond o is =
      let test : nat_lt (get_or t.basis i 0) shape.real ≡ false = grind (arith, nat_tests) in
      if_false (nat_lt (get_or t.basis i 0) shape.real) (goes left t) (driven_at goes left i t (column_of shape i t)) test ∙ ap (driven_at goes left i t) (sym is)

  pub once_none : (get_or t.basis i 0 < shape.real → ⊥) → None ≡ column_of shape i t → driven_once shape left i t goes ≡ goes left t
  once_none beyond is = once_at beyond None is

  pub once_many : (j : ℕ) → (get_or t.basis i 0 < shape.real → ⊥) → Some j ≡ column_of shape i t → left ≡ 0 → driven_once shape left i t goes ≡ pivot_limit
  once_many j beyond is none_left = once_at beyond (Some j) is ∙ ap (λ l. driven_at goes l i t (Some j)) none_left

  pivot_due : (j : ℕ) → (get_or t.basis i 0 < shape.real → ⊥) → Some j ≡ column_of shape i t → (left ≡ 0 → ⊥)
      → driven_once shape left i t goes ≡ after_pivot (goes (left - 1)) (option_and_then (pivoted i j) (turned i j t))
  pivot_due j beyond is some = once_at beyond (Some j) is ∙ by left some
    where
      by : (l : ℕ) → (l ≡ 0 → ⊥) → driven_at goes l i t (Some j) ≡ after_pivot (goes (l - 1)) (option_and_then (pivoted i j) (turned i j t))
      by zero many = absurd (many refl)
      by (suc l) many = let one : suc l - 1 ≡ l = omega arith in rw one refl

  pub once_unturned : (j : ℕ) (later : Machine) (o : Option (Unit {0})) → (get_or t.basis i 0 < shape.real → ⊥) → Some j ≡ column_of shape i t → (left ≡ 0 → ⊥)
      → LeavesMachine (turned i j t) o later → o ≡ None → driven_once shape left i t goes ≡ number_limit
  once_unturned j later o beyond is some after stopped = pivot_due j beyond is some ∙ by (turned i j t) after
    where
      by : (p : Option Tableau) → LeavesMachine p o later → after_pivot (goes (left - 1)) (option_and_then (pivoted i j) p) ≡ number_limit
      by None h = refl
      by (Some turned_t) h = let some_is = h.0 in absurd (cc)

  turned_due : (j : ℕ) (later : Machine) (o : Option (Unit {0})) (u : Unit {0}) → (get_or t.basis i 0 < shape.real → ⊥) → Some j ≡ column_of shape i t → (left ≡ 0 → ⊥)
      → LeavesMachine (turned i j t) o later → o ≡ Some u → driven_once shape left i t goes ≡ after_pivot (goes (left - 1)) (pivoted i j (seen later))
  turned_due j later o u beyond is some after done = pivot_due j beyond is some ∙ by (turned i j t) after
    where
      by : (p : Option Tableau) → LeavesMachine p o later → after_pivot (goes (left - 1)) (option_and_then (pivoted i j) p) ≡ after_pivot (goes (left - 1)) (pivoted i j (seen later))
      by None h = absurd (cc)
      by (Some turned_t) h = ap (λ s. after_pivot (goes (left - 1)) (pivoted i j s)) (sym h.1)

  pub once_out : (j : ℕ) (mid later : Machine) (o p : Option (Unit {0})) (u : Unit {0}) → (get_or t.basis i 0 < shape.real → ⊥) → Some j ≡ column_of shape i t → (left ≡ 0 → ⊥)
      → LeavesMachine (turned i j t) o mid → o ≡ Some u → LeavesMachine (pivoted i j (seen mid)) p later → p ≡ None → driven_once shape left i t goes ≡ number_limit
  once_out j mid later o p u beyond is some after done pivot stopped = turned_due j mid o u beyond is some after done ∙ by (pivoted i j (seen mid)) pivot
    where
      by : (q : Option Tableau) → LeavesMachine q p later → after_pivot (goes (left - 1)) q ≡ number_limit
      by None h = refl
      by (Some new) h = let some_is = h.0 in absurd (cc)

  pub once_goes : (j : ℕ) (mid later : Machine) (o p : Option (Unit {0})) (u v : Unit {0}) → (get_or t.basis i 0 < shape.real → ⊥) → Some j ≡ column_of shape i t → (left ≡ 0 → ⊥)
      → LeavesMachine (turned i j t) o mid → o ≡ Some u → LeavesMachine (pivoted i j (seen mid)) p later → p ≡ Some v → driven_once shape left i t goes ≡ goes (left - 1) (seen later)
  once_goes j mid later o p u v beyond is some after done pivot made = turned_due j mid o u beyond is some after done ∙ by (pivoted i j (seen mid)) pivot
    where
      by : (q : Option Tableau) → LeavesMachine q p later → after_pivot (goes (left - 1)) q ≡ goes (left - 1) (seen later)
      by None h = absurd (cc)
      by (Some new) h = ap (goes (left - 1)) (sym h.1)

-- the rows from a place on
pub driven_cons : (shape : Shape) (left i : ℕ) (t : Tableau) (row : List ℤ) (later : List (List ℤ)) → driven shape left i t (row ∷ later) ≡ driven_once shape left i t (λ l s. driven shape l (i + 1) s later)
unfolding driven
driven_cons shape left i t row later = refl

pub driven_all : (shape : Shape) (left i : ℕ) (t : Tableau) (rows : List (List ℤ)) → length rows ≤ i → driven shape left i t (drop i rows) ≡ reached left t
unfolding driven
driven_all shape left i t rows past = ap (driven shape left i t) (drop_all i rows past)

-- a row that is looked at
pub row_driven : (old now new : Machine) (left i : ℕ) (start : Ending) → KeepsShape old now → i < length old.rows.items
    → driven (shape_of old) left i (seen now) (drop i old.rows.items) ≡ start
    → start ≡ driven_once (shape_of now) left i (seen now) (λ l s. driven (shape_of old) l (i + 1) s (drop (i + 1) old.rows.items))
row_driven old now new left i start keeps within so_far =
    sym so_far ∙ ap (driven (shape_of old) left i (seen now)) (drop_more old.rows.items i [] within)
    ∙ driven_cons (shape_of old) left i (seen now) (get_or old.rows.items i []) (drop (i + 1) old.rows.items)
    ∙ ap (λ shape. driven_once shape left i (seen now) (λ l s. driven (shape_of old) l (i + 1) s (drop (i + 1) old.rows.items))) (sym (same_shape old now keeps))

-- a row at which the steps stop
pub stopped_ends : (old now new : Machine) (left i : ℕ) (start : Ending) (e : code.Ending) → KeepsShape old now → i < length old.rows.items
    → driven (shape_of old) left i (seen now) (drop i old.rows.items) ≡ start → EndsOnce new e (driven_once (shape_of now) left i (seen now))
    → ((n : ℕ) → e ≡ variants.Reached n → ⊥) → Ends new e start
stopped_ends old now new left i start (variants.Reached n) keeps within so_far once other = absurd (other n refl)
stopped_ends old now new left i start variants.NumberLimit keeps within so_far once other = row_driven old now new left i start keeps within so_far ∙ once (λ l s. driven (shape_of old) l (i + 1) s (drop (i + 1) old.rows.items))
stopped_ends old now new left i start variants.PivotLimit keeps within so_far once other = row_driven old now new left i start keeps within so_far ∙ once (λ l s. driven (shape_of old) l (i + 1) s (drop (i + 1) old.rows.items))
stopped_ends old now new left i start variants.Unbounded keeps within so_far once other = row_driven old now new left i start keeps within so_far ∙ once (λ l s. driven (shape_of old) l (i + 1) s (drop (i + 1) old.rows.items))

-- a row that is passed
pub passed_goes : (old now new : Machine) (left i fewer : ℕ) (start : Ending) (e : code.Ending) → KeepsShape old now → i < length old.rows.items
    → driven (shape_of old) left i (seen now) (drop i old.rows.items) ≡ start → EndsOnce new e (driven_once (shape_of now) left i (seen now))
    → e ≡ variants.Reached fewer → driven (shape_of old) fewer (i + 1) (seen new) (drop (i + 1) old.rows.items) ≡ start
passed_goes old now new left i fewer start e keeps within so_far once is =
    let here : EndsOnce new (variants.Reached fewer) (driven_once (shape_of now) left i (seen now)) = subst (λ (x : code.Ending). EndsOnce new x (driven_once (shape_of now) left i (seen now))) is once in
    sym (row_driven old now new left i start keeps within so_far ∙ here (λ l s. driven (shape_of old) l (i + 1) s (drop (i + 1) old.rows.items)))
