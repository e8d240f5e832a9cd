-- Sums of signed numbers over a list, where a term may depend on its place.
use Rattle.std.specs.Prelude.{ℕ, zero, suc, ℤ, pos, ◌+ℤ◌, Bool, true, false, List, [], ◌∷◌}

abbrev pub sum_placed : {X : Type 0} → (ℕ → X → ℤ) → List X → ℤ
sum_placed f [] = pos 0
sum_placed f (x ∷ xs) = f zero x +ℤ sum_placed (λ i. f (suc i)) xs

abbrev pub sum_in : {X : Type 0} → (X → ℤ) → List X → ℤ
sum_in f xs = sum_placed (λ i x. f x) xs

-- a term that counts only where a test holds
abbrev pub chosen : Bool → ℤ → ℤ
chosen true z = z
chosen false z = pos 0
