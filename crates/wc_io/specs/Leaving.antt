-- What a call leaves of a house.
use Rattle.std.specs.Prelude.{◌≡◌, List, ℕ}
use Rattle.wc_io.specs.Rows.{Row}
use Rattle.wc_io.specs.Telling.{StaysOut}
use Rattle.wc_io.specs.declared.houses.House.{Ghosts}

-- The call added rows, changed no file but the written ones, and gave back all that it opened.
pub record Leaves {H S K : Type 0} (house : Ghosts H S K) (adds : List Row → List Row → Type 0) (written : List ℕ → Type 0) (old new : H) : Type 0 where
  pub rows : adds (house.opened old) (house.opened new)
  pub files : (path : List ℕ) → (written path → ⊥) → house.file new path ≡ house.file old path
  pub tells : house.tells new ≡ house.tells old
  pub out : StaysOut (house.are_out old) (house.are_out new)

-- no path
abbrev pub NoPath : List ℕ → Type 0
NoPath path = ⊥
