-- Sets of numbers as digital search trees, after Coffman and Eve 1970.
use Rattle.std.specs.Prelude.{ℕ, ◌≡◌, ◌+◌, ◌<◌, ◌≤◌, ◌/◌, ◌%◌, ◌==◌, ◌↔◌, ◌⊎◌, ◌++◌, if◌then◌else◌, List, Option, None, Some, length, slice_get}
use Rattle.wc_graph.specs.declared.keys.Branch.{Branch}

abbrev pub after : Option ℕ → ℕ
after None = 0
after (Some k) = k + 1

-- the part of the set where a key goes on
abbrev pub child : Branch → ℕ → Option ℕ
child b digits = if digits % 2 == 0 then b.low else b.high

abbrev pub with_child : Branch → ℕ → ℕ → Branch
with_child b digits part = if digits % 2 == 0 then record { key = b.key; low = Some part; high = b.high } else record { key = b.key; low = b.low; high = Some part }

-- the key stands on the way that its digits tell
pub data IsIn (branches : List Branch) (key : ℕ) : ℕ → Option ℕ → Type 0 where
  here : {digits : ℕ} (k : ℕ) (b : Branch) → slice_get branches k ≡ Some b → b.key ≡ key → IsIn branches key digits (Some k)
  below : {digits : ℕ} (k : ℕ) (b : Branch) → slice_get branches k ≡ Some b → IsIn branches key (digits / 2) (child b digits) → IsIn branches key digits (Some k)

-- parts stand before the whole
abbrev pub AreBranches : List Branch → Type 0
AreBranches branches = (k : ℕ) (b : Branch) → slice_get branches k ≡ Some b → (after b.low ≤ k) × (after b.high ≤ k)

-- what was there stays, and the new set has one more key
pub record HasKey (old new : List Branch) (root : Option ℕ) (key digits number : ℕ) : Type 0 where
  pub more : List Branch
  pub grown : new ≡ old ++ more
  pub are : AreBranches new
  pub inside : number < length new
  pub is : (other others : ℕ) → (other ≡ key → others ≡ digits) → IsIn new other others (Some number) ↔ (IsIn old other others root ⊎ (other ≡ key))
