-- (inner) What the code's tableau stands for, and what each step keeps of it.
use Rattle.std.specs.Prelude.{◌≡◌, ℕ, ◌+◌, ◌<◌, ◌≤◌, ℤ, List, get_or, length, Option, None, Some}
use Rattle.wc_model.specs.Flow.RowMachine.{Tableau, Shape, tableau}
use Rattle.wc_simplex.specs.declared.tableau.Machine.{Machine}

abbrev pub seen : Machine → Tableau
seen m = tableau m.basis.items m.rows.items m.z m.w

abbrev pub shape_of : Machine → Shape
shape_of m = record { real = m.real; right = m.right }

abbrev pub AreWide : ℕ → List (List ℤ) → Type 0
AreWide width rows = (k : ℕ) (d : List ℤ) → k < length rows → length (get_or rows k d) ≡ width

-- Each row is as long as the columns, the right side and the own coefficient, and has a basis column.
pub record IsRegular (m : Machine) : Type 0 where
  pub rows : AreWide (m.right + 2) m.rows.items
  pub z : length m.z ≡ m.right + 2
  pub w : length m.w ≡ m.right + 2
  pub basis : length m.basis.items ≡ length m.rows.items
  pub real : m.real ≤ m.right

pub record KeepsShape (old new : Machine) : Type 0 where
  pub rows : length new.rows.items ≡ length old.rows.items
  pub real : new.real ≡ old.real
  pub right : new.right ≡ old.right

abbrev pub LeavesMachine : Option Tableau → Option (Unit {0}) → Machine → Type 0
LeavesMachine (Some t) result new = (result ≡ Some tt) × (seen new ≡ t)
LeavesMachine None result new = result ≡ None
