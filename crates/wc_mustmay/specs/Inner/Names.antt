-- The lines of a set, named from 0 by rising line number.
use Rattle.std.specs.Prelude.{ℕ, ◌≡◌, ◌<◌, List, [], ◌∷◌, Option, None, Some, Contains, length, slice_index, slice_index_or}
use Rattle.std.specs.List.Sorted.{IsStrictlyIncreasing}

abbrev pub lines_in : Option ℕ → List ℕ
lines_in None = []
lines_in (Some line) = line ∷ []

pub record AreNames (own : List (Option ℕ)) (names : List ℕ) : Type 0 where
  pub rising : IsStrictlyIncreasing names
  pub all : (p line : ℕ) → slice_index_or own p None ≡ Some line → Contains names line

-- the name of a line is its place
abbrev pub IsName : List ℕ → Option ℕ → Option ℕ → Type 0
IsName names None name = name ≡ None
IsName names (Some line) name = (k : ℕ) × (name ≡ Some k) × (k < length names) × (slice_index names k ≡ line)

-- the names of the lines that nodes fetch
pub record AreNamed (names : List ℕ) (own named : List (Option ℕ)) : Type 0 where
  pub count : length named ≡ length own
  pub each : (p : ℕ) → IsName names (slice_index_or own p None) (slice_index_or named p None)
