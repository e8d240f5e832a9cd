-- The places of numbers in a list.
use Rattle.std.specs.Prelude.{ℕ, ◌≡◌, ◌<◌, List, Option, Some, Vec, length, slice_get}
use Rattle.std.specs.Global.{Global}
use Rattle.wc_graph.specs.Inner.Numbers.{IsOnce}

-- of a list the first `number` are placed
pub record IsPlacedTo (count : ℕ) (listed : List ℕ) (number : ℕ) (places : List (Option ℕ)) : Type 0 where
  pub counted : length places ≡ count
  pub back : (k i : ℕ) → slice_get places k ≡ Some (Some i) → (i < number) × (slice_get listed i ≡ Some k)
  pub there : IsOnce listed → (i k : ℕ) → i < number → slice_get listed i ≡ Some k → slice_get places k ≡ Some (Some i)

abbrev pub IsInverse : ℕ → List ℕ → Vec (Option ℕ) Global → Type 0
IsInverse count listed v = IsPlacedTo count listed (length listed) v.items
