-- A set in an array of eight places.
use Rattle.std.specs.Prelude.{ℕ, ◌≡◌, List, ◌∷◌, ◌++◌, drop, take}
use Rattle.wc_model.specs.Cache.Lru.{has_line, without}
use Rattle.wc_lru.specs.declared.sets.Set.{Set}

abbrev pub lines_of : Set → List ℕ
lines_of set = take set.count set.lines

-- A line goes to the front of the set `all`: `lines` is the array so far, and `coming` is to stand at place `i`.
pub record IsMoving (line : ℕ) (all lines : List ℕ) (count i coming : ℕ) : Type 0 where
  pub so_far : take i lines ++ (coming ∷ without line (drop i (take count lines))) ≡ line ∷ without line all
  pub hit : has_line (drop i (take count lines)) line ≡ has_line all line
