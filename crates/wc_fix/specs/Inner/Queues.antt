-- The nodes that wait, by a flag each, and a queue that has them all.
use Rattle.std.specs.Prelude.{ℕ, ◌≡◌, ◌<◌, Bool, true, false, List, Option, None, Some, All, Contains, length, slice_index_or, slice_set}

abbrev pub Waits : List Bool → ℕ → Type 0
Waits waiting p = slice_index_or waiting p false ≡ true

abbrev pub IsIdle : List Bool → Type 0
IsIdle waiting = (p : ℕ) → slice_index_or waiting p false ≡ false

pub record IsQueue (waiting : List Bool) (queue : List ℕ) : Type 0 where
  pub has : (p : ℕ) → Waits waiting p → Contains queue p
  pub inside : All (λ p. p < length waiting) queue

-- a node waited, and does no longer
abbrev pub IsTaken : ℕ → List Bool → List Bool → Type 0
IsTaken node old new = Waits old node × (new ≡ slice_set old node false)

abbrev pub IsNext : List Bool → List Bool → Option ℕ → Type 0
IsNext old new None = (new ≡ old) × IsIdle old
IsNext old new (Some node) = IsTaken node old new
