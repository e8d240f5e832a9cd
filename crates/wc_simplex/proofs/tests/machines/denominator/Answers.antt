use Rattle.std.proofs.Common.{◌≡◌, ◌<◌, ◌<ℤ◌, ◌≤ℤ◌, ◌∷◌, ◌∙◌, [], ℕ, zero, suc, ℤ, pos, List, ap₂, arith, get_or, rules, subst, sym}
use Rattle.std.proofs.lemmas.Int.{ints, to_z-of_z}
use mir.Syntax.{w128}
use Rattle.wc_model.specs.Flow.RowMachine.{Shape, cell, tableau}
use Rattle.wc_simplex.specs.Inner.Counts.{IsReadable}
use Rattle.wc_simplex.proofs.tests.machines.denominator.Goals as goal

abbrev made_rows : ℤ → ℤ → List (List ℤ)
made_rows first second =
    (first ∷ pos 0 ∷ pos 0 ∷ pos 0 ∷ pos 1 ∷ pos 0 ∷ []) ∷ (pos 0 ∷ second ∷ pos 0 ∷ pos 0 ∷ pos 1 ∷ pos 0 ∷ []) ∷ []

made_readable : (first second : ℤ) (z w : List ℤ) → pos 0 <ℤ first → pos 0 <ℤ second → IsReadable (record { real = 2; right = 4 }) (tableau (0 ∷ 1 ∷ []) (made_rows first second) z w)
made_readable first second z w some some_too = record { inside = inside; above = above; sides = sides }
  where
    inside : (k : ℕ) → k < 2 → get_or (0 ∷ 1 ∷ []) k 0 < 4
    inside zero h = omega arith
    inside (suc zero) h = omega arith
    inside (suc (suc k)) h = absurd (omega arith)

    above : (k : ℕ) → k < 2 → pos 0 <ℤ cell (tableau (0 ∷ 1 ∷ []) (made_rows first second) z w) k (get_or (0 ∷ 1 ∷ []) k 0)
    above zero h = some
    above (suc zero) h = some_too
    above (suc (suc k)) h = absurd (omega arith)

    sides : (k : ℕ) → k < 2 → pos 0 ≤ℤ cell (tableau (0 ∷ 1 ∷ []) (made_rows first second) z w) k 4
    sides zero h = omega (arith, ints)
    sides (suc zero) h = omega (arith, ints)
    sides (suc (suc k)) h = absurd (omega arith)

-- Two rows with a basis column each.
made_is : (first second : ℤ) (real right : ℕ) (basis : List ℕ) (rows : List (List ℤ)) (z w : List ℤ) → pos 0 <ℤ first → pos 0 <ℤ second
    → rows ≡ made_rows first second → basis ≡ 0 ∷ 1 ∷ [] → real ≡ 2 → right ≡ 4 → IsReadable (record { real = real; right = right }) (tableau basis rows z w)
made_is first second real right basis rows z w some some_too by_rows by_basis by_real by_right =
    subst (λ (n : ℕ). IsReadable (record { real = n; right = right }) (tableau basis rows z w)) (sym by_real)
    (subst (λ (n : ℕ). IsReadable (record { real = 2; right = n }) (tableau basis rows z w)) (sym by_right)
    (subst (λ (b : List ℕ). IsReadable (record { real = 2; right = 4 }) (tableau b rows z w)) (sym by_basis)
    (subst (λ (r : List (List ℤ)). IsReadable (record { real = 2; right = 4 }) (tableau (0 ∷ 1 ∷ []) r z w)) (sym by_rows) (made_readable first second z w some some_too))))

pub denominator-requires-clause-readable : goal.denominator-requires-clause-readable
denominator-requires-clause-readable c =
    made_is c.args.first c.args.second _ _ _ _ _ _ c.requires.first c.requires.second
    (c.in_ok-machine.ensures.rows ∙ ap₂ made_rows (to_z-of_z w128 c.args.first (search rules)) (to_z-of_z w128 c.args.second (search rules))) c.in_ok-machine.ensures.basis c.in_ok-machine.ensures.right.0 c.in_ok-machine.ensures.right.1
