-- The equations that the rows of a tableau state. Numbers at the columns, minus the denominator at the right side and 0
-- at the own coefficient, solve a row where it weighs 0.
use Rattle.std.specs.Prelude.{◌≡◌, ℕ, suc, ℤ, pos, ◌+ℤ◌, ◌*ℤ◌, List, [], ◌∷◌}
use Rattle.std.specs.List.{AllByRecursion}

-- the sum of coefficient times entry, where the first entry's place is `k`
abbrev pub weighs : (ℕ → ℤ) → ℕ → List ℤ → ℤ
weighs c k [] = pos 0
weighs c k (x ∷ xs) = c k *ℤ x +ℤ weighs c (suc k) xs

abbrev pub AllZero : (List ℤ → ℤ) → List (List ℤ) → Type 0
AllZero f rows = AllByRecursion (λ row. f row ≡ pos 0) rows

-- The rows have the same solutions.
pub record KeepsSolutions (old new : List (List ℤ)) : Type 0 where
  pub after : (c : ℕ → ℤ) → AllZero (weighs c 0) old → AllZero (weighs c 0) new
  pub before : (c : ℕ → ℤ) → AllZero (weighs c 0) new → AllZero (weighs c 0) old
