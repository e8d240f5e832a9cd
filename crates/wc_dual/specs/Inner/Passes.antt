-- Sums to which each of some rows adds a term: one sum, or those of a block at once.
use Rattle.std.specs.Prelude.{ℕ, ◌≡◌, ◌+◌, ◌<◌, ◌⊎◌, Bool, true, false, ℤ, ◌+ℤ◌, Option, None, Some, List, length}
use Rattle.wc_base.specs.Sums.{sum_placed}
use Rattle.wc_model.specs.Flow.Places.{number_at}
use Rattle.wc_dual.specs.Wide.{IsOut, Leaves}
use Rattle.wc_dual.specs.Inner.Blocks.{Adds, CannotAdd}

-- one more term of a sum; `Wide` is what else can leave the range
abbrev pub IsTerm : Type 0 → ℤ → ℤ → Option ℤ → Type 0
IsTerm Wide sum term (Some z) = z ≡ sum +ℤ term
IsTerm Wide sum term None = Wide ⊎ IsOut (sum +ℤ term)

-- a sum from a number on
abbrev pub IsSum : {X : Type 0} → Type 0 → ℤ → (ℕ → X → ℤ) → List X → Option ℤ → Type 0
IsSum Wide begin f xs (Some z) = z ≡ begin +ℤ sum_placed f xs
IsSum Wide begin f xs None = Wide ⊎ Leaves begin f xs

-- what rows add to the sum at `i`
abbrev pub added_by : {X : Type 0} → (ℕ → X → ℕ → ℤ) → List X → ℕ → ℤ
added_by g rows i = sum_placed (λ j r. g j r i) rows

-- the sums of a block after one more row
abbrev pub IsRowTurn : Type 0 → ℕ → (ℕ → ℤ) → List ℤ → List ℤ → Bool → Type 0
IsRowTurn Wide first f old new true = Adds first f old new
IsRowTurn Wide first f old new false = Wide ⊎ CannotAdd first f old

-- those after all rows
abbrev pub CannotSum : {X : Type 0} → (ℕ → X → ℕ → ℤ) → List X → ℕ → List ℤ → Type 0
CannotSum g rows first old = (k : ℕ) × (k < length old) × Leaves (number_at old k) (λ j r. g j r (first + k)) rows

abbrev pub IsPass : {X : Type 0} → Type 0 → (ℕ → X → ℕ → ℤ) → List X → ℕ → List ℤ → List ℤ → Bool → Type 0
IsPass Wide g rows first old new true = Adds first (added_by g rows) old new
IsPass Wide g rows first old new false = Wide ⊎ CannotSum g rows first old
