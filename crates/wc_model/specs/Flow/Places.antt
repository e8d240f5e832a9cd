-- Lists of places, and numbers by their places.
use Rattle.std.specs.Prelude.{ℕ, ◌≡◌, ◌+◌, ℤ, pos, Bool, false, ◌||◌, ◌==◌, if◌then◌else◌, List, [], ◌∷◌, slice_index_or}

-- the number at a place of a list
abbrev pub number_at : List ℤ → ℕ → ℤ
number_at zs i = slice_index_or zs i (pos 0)

abbrev pub is_listed : ℕ → List ℕ → Bool
is_listed n [] = false
is_listed n (m ∷ ms) = n == m || is_listed n ms

-- no number stands twice
abbrev pub IsOnce : List ℕ → Type 0
IsOnce [] = Unit {0}
IsOnce (n ∷ ns) = (is_listed n ns ≡ false) × IsOnce ns

-- the places of the elements that pass a test, in order, where the first element's place is `first`
abbrev pub places_from : {X : Type 0} → ℕ → (ℕ → X → Bool) → List X → List ℕ
places_from first test [] = []
places_from first test (x ∷ xs) = if test first x then first ∷ places_from (first + 1) test xs else places_from (first + 1) test xs

abbrev pub places_of : {X : Type 0} → (ℕ → X → Bool) → List X → List ℕ
places_of test xs = places_from 0 test xs
