-- Where the texts of a string table end.
use Rattle.std.specs.Prelude.{ℕ, ◌≡◌, ◌+◌, ◌*◌, ◌/◌, ◌<◌, ◌==◌, Bool, List, length, drop, slice_index}
use Rattle.std.specs.List.{position_or_len}

abbrev pub is_nul : ℕ → Bool
is_nul byte = byte == 0

-- the place of the first NUL from the place `at` on, or the table's length
abbrev pub nul_from : List ℕ → ℕ → ℕ
nul_from strings at = at + position_or_len is_nul (drop at strings)

-- the places of the first NULs from 0, 64, 128 and so on
pub record AreEnds (strings ends : List ℕ) : Type 0 where
  pub count : length ends ≡ length strings / 64 + 1
  pub first : (block : ℕ) → block < length ends → slice_index ends block ≡ nul_from strings (64 * block)
