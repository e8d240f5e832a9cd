-- What a list of descriptions means: which kind requires which, and when the list is refused. After OTAWA 2010.
use Rattle.std.specs.Prelude.{ℕ, ◌≡◌, ◌<◌, ◌≤◌, ◌⊎◌, ◌↔◌, List, take, Some, All, Contains, slice_get}
use Rattle.wc_model.specs.declared.kinds.Describe.{Describe}
use Rattle.wc_model.specs.declared.kinds.Part.{Part}
use Rattle.wc_model.specs.Workspace.Closures.{requires_of, reads_of}

module _ (kinds : List Describe) where
  -- a kind requires another one, directly or through others
  pub data Requires (k : ℕ) : ℕ → Type 0 where
    directly : {j : ℕ} → Contains (requires_of kinds k) j → Requires k j
    through : {i j : ℕ} → Requires k i → Contains (requires_of kinds i) j → Requires k j

  -- a part of the closure of a kind: it reads the part, or any kind reads it that it requires
  abbrev pub IsInClosure : ℕ → Part → Type 0
  IsInClosure k part = Contains (reads_of kinds k) part ⊎ ((j : ℕ) × Requires k j × Contains (reads_of kinds j) part)

  abbrev pub IsProvided : ℕ → Type 0
  IsProvided k = (d : Describe) × Contains kinds d × (d.provides ≡ k)

  -- Why a list is refused: a kind is provided twice, or is required and not provided, or requires itself.
  abbrev pub IsDoubled : ℕ → Type 0
  IsDoubled k = (i j : ℕ) × (d e : Describe) × (i < j) × (slice_get kinds i ≡ Some d) × (slice_get kinds j ≡ Some e) × (d.provides ≡ k) × (e.provides ≡ k)

  abbrev pub IsMissing : ℕ → Type 0
  IsMissing k = (d : Describe) × Contains kinds d × Contains d.requires_ k × (IsProvided k → ⊥)

  abbrev pub IsCyclic : ℕ → Type 0
  IsCyclic k = Requires k k

  -- The order of the kinds: each one once and after all that it requires; and of the kinds that could come next, the
  -- least one does.
  pub record IsOrderOf (order : List ℕ) : Type 0 where
    pub exactly : (k : ℕ) → Contains order k ↔ IsProvided k
    pub once : (i j k : ℕ) → slice_get order i ≡ Some k → slice_get order j ≡ Some k → i ≡ j
    pub after : (i k : ℕ) → slice_get order i ≡ Some k → All (Contains (take i order)) (requires_of kinds k)
    pub least : (i k j : ℕ) → slice_get order i ≡ Some k → IsProvided j → (Contains (take i order) j → ⊥) → All (Contains (take i order)) (requires_of kinds j) → k ≤ j

-- the least number of which something holds
abbrev pub IsLeastWith : (ℕ → Type 0) → ℕ → Type 0
IsLeastWith P k = P k × ((j : ℕ) → P j → k ≤ j)
