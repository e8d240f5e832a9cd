-- Items with numbers: each stands once in a list that only grows.
use Rattle.std.specs.Prelude.{ℕ, ◌≡◌, ◌⊎◌, List, [], ◌∷◌, ◌++◌, Some, Contains, length, slice_get}

module _ {X : Type 0} where
  abbrev pub IsOnce : List X → Type 0
  IsOnce xs = (i j : ℕ) (x : X) → slice_get xs i ≡ Some x → slice_get xs j ≡ Some x → i ≡ j

  -- what had a number has the same one
  abbrev pub IsKept : List X → List X → Type 0
  IsKept old new = (k : ℕ) (x : X) → slice_get old k ≡ Some x → slice_get new k ≡ Some x

  -- the item has this number, and at most it was added
  abbrev pub IsGrown : List X → List X → X → ℕ → Type 0
  IsGrown old new x number = (new ≡ old) ⊎ ((number ≡ length old) × (Contains old x → ⊥) × (new ≡ old ++ x ∷ []))

  pub record HasNumber (old new : List X) (x : X) (number : ℕ) : Type 0 where
    pub is : slice_get new number ≡ Some x
    pub grown : IsGrown old new x number
