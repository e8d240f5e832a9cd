-- (inner) What every step of the machine keeps.
use Rattle.std.specs.Prelude.{◌≡◌, ℕ, suc, ◌+◌, ◌<◌, ℤ, pos, ◌+ℤ◌, ◌-ℤ◌, ◌*ℤ◌, ◌≤ℤ◌, ◌<ℤ◌, List, map, get_or, length, Some}
use Rattle.std.specs.List.{AllByRecursion}
use Rattle.wc_model.specs.Flow.Exact.{mix_row}
use Rattle.wc_model.specs.Flow.RowMachine.{Shape, Tableau, cell, entry}
use Rattle.wc_simplex.specs.Solutions.{AllZero}

-- a linear functional of rows
pub record IsLinear (f : List ℤ → ℤ) : Type 0 where
  pub mix : (a b : ℤ) (row pivot new : List ℤ) → length row ≡ length pivot → mix_row a b row pivot ≡ Some new → f new ≡ a *ℤ f row -ℤ b *ℤ f pivot
  pub times : (g : ℤ) (row : List ℤ) → f (map (λ x. g *ℤ x) row) ≡ g *ℤ f row

abbrev pub HaveWidth : ℕ → List (List ℤ) → Type 0
HaveWidth width rows = AllByRecursion (λ row. length row ≡ width) rows

-- The basis columns are 0 outside their own rows, and no right side is below 0.
pub record IsBasic (shape : Shape) (t : Tableau) : Type 0 where
  pub bases : length t.basis ≡ length t.rows
  pub inside : (k : ℕ) → k < length t.rows → get_or t.basis k 0 < shape.right
  pub apart : (i k : ℕ) → i < length t.rows → k < length t.rows → (i ≡ k → ⊥) → cell t i (get_or t.basis k 0) ≡ pos 0
  pub z_none : (k : ℕ) → k < length t.rows → entry t.z (get_or t.basis k 0) ≡ pos 0
  pub w_none : (k : ℕ) → k < length t.rows → entry t.w (get_or t.basis k 0) ≡ pos 0
  pub sides : (k : ℕ) → k < length t.rows → pos 0 ≤ℤ cell t k shape.right

abbrev pub IsAbove : Tableau → ℕ → Type 0
IsAbove t k = pos 0 <ℤ cell t k (get_or t.basis k 0)

abbrev pub AreAbove : Tableau → Type 0
AreAbove t = (k : ℕ) → k < length t.rows → IsAbove t k

-- Equations of the first rows are those of the rows now, and with them a goal row's equation stays.
pub record Follows (shape : Shape) (start t : Tableau) : Type 0 where
  pub count : length t.rows ≡ length start.rows
  pub wide : HaveWidth (shape.right + 2) t.rows
  pub wide_z : length t.z ≡ shape.right + 2
  pub wide_w : length t.w ≡ shape.right + 2
  pub after : (f : List ℤ → ℤ) → IsLinear f → AllZero f start.rows → AllZero f t.rows
  pub before : (f : List ℤ → ℤ) → IsLinear f → AllZero f t.rows → AllZero f start.rows
  pub z_after : (f : List ℤ → ℤ) → IsLinear f → AllZero f start.rows → f start.z ≡ pos 0 → f t.z ≡ pos 0
  pub w_after : (f : List ℤ → ℤ) → IsLinear f → AllZero f start.rows → f start.w ≡ pos 0 → f t.w ≡ pos 0
  pub own : AllZero (λ row. entry row (suc shape.right)) t.rows
  pub own_z : pos 0 <ℤ entry t.z (suc shape.right)
  pub own_w : pos 0 <ℤ entry t.w (suc shape.right)

pub record IsReached (shape : Shape) (start t : Tableau) : Type 0 where
  pub basic : IsBasic shape t
  pub above : AreAbove t
  pub follows : Follows shape start t

-- Row `r` has the least right side over its entry at `j` of the rows with an entry above 0.
abbrev pub IsLeast : Shape → Tableau → ℕ → ℕ → Type 0
IsLeast shape t r j =
    (i : ℕ) → i < length t.rows → pos 0 <ℤ cell t i j → (cell t i j *ℤ cell t r shape.right) ≤ℤ (cell t r j *ℤ cell t i shape.right)

-- a row whose basis is artificial has no right side, and no entries at real columns
abbrev pub IsLeftOut : Shape → Tableau → ℕ → Type 0
IsLeftOut shape t k =
    (cell t k shape.right ≡ pos 0) × ((m : ℕ) → m < shape.real → cell t k m ≡ pos 0)
