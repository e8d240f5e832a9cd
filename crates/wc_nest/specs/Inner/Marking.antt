-- Marks of nodes.
use Rattle.std.specs.Prelude.{ℕ, ◌≡◌, List, [], ◌∷◌, Some, slice_get, slice_set}
use Rattle.wc_nest.specs.declared.marking.Mark.{Mark}
use Rattle.wc_nest.specs.declared.marking.Mark.TheVariants.{New, Done}

-- a list after each of some places got the same value
abbrev pub set_all : {X : Type 0} → List X → List ℕ → X → List X
set_all xs [] x = xs
set_all xs (p ∷ ps) x = set_all (slice_set xs p x) ps x

abbrev pub IsMarked : List Mark → ℕ → Type 0
IsMarked marks p = (m : Mark) × (slice_get marks p ≡ Some m) × (m ≡ New → ⊥)

-- the node's class has the number
abbrev pub IsOf : List Mark → ℕ → ℕ → Type 0
IsOf marks p c = slice_get marks p ≡ Some (Done c)
