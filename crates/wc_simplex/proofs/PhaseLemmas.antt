-- One round of a phase.
use Rattle.std.proofs.Common.{◌≡◌, ℕ, zero, suc, ◌-◌, Bool, Option, None, Some, refl, sym, ap, ap₂, ◌∙◌, arith}
use Rattle.wc_model.specs.Flow.RowMachine.{Choice, Ending, Shape, Tableau, after_choice, after_pivot, choice, finished, goal_row, no_row, number_limit, phase, pivot_limit, pivoted, pivots, reached, too_wide, unbounded}
use Rattle.wc_simplex.specs.declared.tableau.Machine.{Machine}
use Rattle.wc_simplex.specs.Inner.Machines.{KeepsShape, LeavesMachine, seen, shape_of}

pub same_shape : (old new : Machine) → KeepsShape old new → shape_of new ≡ shape_of old
same_shape old new keeps = ap₂ shape keeps.real keeps.right
  where
    shape : ℕ → ℕ → Shape
    shape real right = record { real = real; right = right }

pub keeps_refl : (m : Machine) → KeepsShape m m
keeps_refl m = record { rows = refl; real = refl; right = refl }

pub keeps_trans : (a b c : Machine) → KeepsShape a b → KeepsShape b c → KeepsShape a c
keeps_trans a b c p q = record { rows = q.rows ∙ p.rows; real = q.real ∙ p.real; right = q.right ∙ p.right }

-- the choice, seen with the shape at the start
chosen_at : (first : Bool) (old new : Machine) (what : Choice) → KeepsShape old new → what ≡ choice (shape_of new) (goal_row first (seen new)) (seen new) → choice (shape_of old) (goal_row first (seen new)) (seen new) ≡ what
chosen_at first old new what keeps is = sym (is ∙ ap (λ s. choice s (goal_row first (seen new)) (seen new)) (same_shape old new keeps))

phase_at : (first : Bool) (shape : Shape) (left : ℕ) (t : Tableau) → (left ≡ 0 → ⊥) → phase first shape left t ≡ after_choice (reached left t) (λ r j. after_pivot (phase first shape (left - 1)) (pivoted r j t)) (choice shape (goal_row first t) t)
unfolding phase
phase_at first shape zero t some = absurd (some refl)
phase_at first shape (suc left) t some = whole
  where
    whole : phase first shape (suc left) t ≡ after_choice (reached (suc left) t) (λ r j. after_pivot (phase first shape (suc left - 1)) (pivoted r j t)) (choice shape (goal_row first t) t)
    whole = let one : suc left - 1 ≡ left = omega arith in rw one refl

module _ (first : Bool) (left : ℕ) (old new : Machine) (start : Ending) (keeps : KeepsShape old new) (so_far : phase first (shape_of old) left (seen new) ≡ start) where
  end_of : (what : Choice) (end : Ending) → what ≡ choice (shape_of new) (goal_row first (seen new)) (seen new)
      → ((shape : Shape) (l : ℕ) → choice shape (goal_row first (seen new)) (seen new) ≡ what → l ≡ left → phase first shape l (seen new) ≡ end) → start ≡ end
  end_of what end is ends = sym so_far ∙ ends (shape_of old) left (chosen_at first old new what keeps is) refl

  pub finished_ends : finished ≡ choice (shape_of new) (goal_row first (seen new)) (seen new) → start ≡ reached left (seen new)
  unfolding phase
  finished_ends is = end_of finished (reached left (seen new)) is by
    where
      by : (shape : Shape) (l : ℕ) → choice shape (goal_row first (seen new)) (seen new) ≡ finished → l ≡ left → phase first shape l (seen new) ≡ reached left (seen new)
      by shape zero here same = ap (after_choice (reached 0 (seen new)) (λ r j. pivot_limit)) here ∙ ap (λ n. reached n (seen new)) same
      by shape (suc l) here same = ap (after_choice (reached (suc l) (seen new)) (λ r j. after_pivot (phase first shape l) (pivoted r j (seen new)))) here ∙ ap (λ n. reached n (seen new)) same

  pub wide_ends : too_wide ≡ choice (shape_of new) (goal_row first (seen new)) (seen new) → start ≡ number_limit
  unfolding phase
  wide_ends is = end_of too_wide number_limit is by
    where
      by : (shape : Shape) (l : ℕ) → choice shape (goal_row first (seen new)) (seen new) ≡ too_wide → l ≡ left → phase first shape l (seen new) ≡ number_limit
      by shape zero here same = ap (after_choice (reached 0 (seen new)) (λ r j. pivot_limit)) here
      by shape (suc l) here same = ap (after_choice (reached (suc l) (seen new)) (λ r j. after_pivot (phase first shape l) (pivoted r j (seen new)))) here

  pub lost_ends : (j : ℕ) → no_row j ≡ choice (shape_of new) (goal_row first (seen new)) (seen new) → start ≡ unbounded
  unfolding phase
  lost_ends j is = end_of (no_row j) unbounded is by
    where
      by : (shape : Shape) (l : ℕ) → choice shape (goal_row first (seen new)) (seen new) ≡ no_row j → l ≡ left → phase first shape l (seen new) ≡ unbounded
      by shape zero here same = ap (after_choice (reached 0 (seen new)) (λ r k. pivot_limit)) here
      by shape (suc l) here same = ap (after_choice (reached (suc l) (seen new)) (λ r k. after_pivot (phase first shape l) (pivoted r k (seen new)))) here

  pub many_ends : (r j : ℕ) → left ≡ 0 → pivots r j ≡ choice (shape_of new) (goal_row first (seen new)) (seen new) → start ≡ pivot_limit
  unfolding phase
  many_ends r j none_left is = end_of (pivots r j) pivot_limit is (λ shape l here same. by shape l here (same ∙ none_left))
    where
      by : (shape : Shape) (l : ℕ) → choice shape (goal_row first (seen new)) (seen new) ≡ pivots r j → l ≡ 0 → phase first shape l (seen new) ≡ pivot_limit
      by shape zero here same = ap (after_choice (reached 0 (seen new)) (λ r k. pivot_limit)) here
      by shape (suc l) here same = absurd (omega arith)

  -- a pivot is made
  goes : (r j : ℕ) → (left ≡ 0 → ⊥) → pivots r j ≡ choice (shape_of new) (goal_row first (seen new)) (seen new)
      → start ≡ after_pivot (phase first (shape_of old) (left - 1)) (pivoted r j (seen new))
  goes r j some is =
      sym so_far ∙ phase_at first (shape_of old) left (seen new) some
      ∙ ap (after_choice (reached left (seen new)) (λ r k. after_pivot (phase first (shape_of old) (left - 1)) (pivoted r k (seen new)))) (chosen_at first old new (pivots r j) keeps is)

  pub out_ends : (r j : ℕ) (later : Machine) (o : Option (Unit {0})) → (left ≡ 0 → ⊥) → pivots r j ≡ choice (shape_of new) (goal_row first (seen new)) (seen new)
      → LeavesMachine (pivoted r j (seen new)) o later → o ≡ None → start ≡ number_limit
  out_ends r j later o some is after stopped = goes r j some is ∙ by (pivoted r j (seen new)) after
    where
      by : (p : Option Tableau) → LeavesMachine p o later → after_pivot (phase first (shape_of old) (left - 1)) p ≡ number_limit
      by None h = refl
      by (Some t) h = let some_is = h.0 in absurd (cc)

  pub goes_on : (r j : ℕ) (later : Machine) (o : Option (Unit {0})) (u : Unit {0}) → (left ≡ 0 → ⊥) → pivots r j ≡ choice (shape_of new) (goal_row first (seen new)) (seen new)
      → LeavesMachine (pivoted r j (seen new)) o later → o ≡ Some u → phase first (shape_of old) (left - 1) (seen later) ≡ start
  goes_on r j later o u some is after done = sym (goes r j some is ∙ by (pivoted r j (seen new)) after)
    where
      by : (p : Option Tableau) → LeavesMachine p o later → after_pivot (phase first (shape_of old) (left - 1)) p ≡ phase first (shape_of old) (left - 1) (seen later)
      by None h = absurd (cc)
      by (Some t) h = ap (phase first (shape_of old) (left - 1)) (sym h.1)
