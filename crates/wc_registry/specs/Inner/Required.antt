-- What sets of kinds say of a list of descriptions.
use Rattle.std.specs.Prelude.{ℕ, ◌≡◌, ◌<◌, ◌==◌, ◌&&◌, ◌||◌, ◌↔◌, Bool, true, false, List, [], Option, None, Some, length, slice_index_or, Contains}
use Rattle.std.specs.List.{list_any}
use Rattle.wc_model.specs.declared.kinds.Describe.{Describe}
use Rattle.wc_model.specs.declared.kinds.Part.{Part}
use Rattle.wc_model.specs.declared.kinds.Part.TheVariants.{Steer, Loops, Limits, Cache, Cycles}
use Rattle.wc_model.specs.Workspace.Closures.{lesser, order_of, requires_of}
use Rattle.wc_model.specs.Workspace.Registry.{IsDoubled, IsOrderOf, IsProvided, Requires}
use Rattle.wc_registry.specs.Inner.KindSets.{holds}
use Rattle.wc_registry.specs.Sound.{IsSound}

abbrev pub AreProvided : List Describe → List Bool → Type 0
AreProvided kinds marks = (k : ℕ) → (holds marks k ≡ true) ↔ IsProvided kinds k

-- of the kinds provided or required by a part of the list
abbrev pub AreDoubled : List Describe → List Bool → Type 0
AreDoubled ds marks = (k : ℕ) → (holds marks k ≡ true) ↔ IsDoubled ds k

abbrev pub AreMissing : List Describe → List Describe → List Bool → Type 0
AreMissing kinds ds marks = (k : ℕ) → (holds marks k ≡ true) ↔ ((d : Describe) × Contains ds d × Contains d.requires_ k × (IsProvided kinds k → ⊥))

abbrev pub AreCyclic : List Describe → List Describe → List Bool → Type 0
AreCyclic kinds ds marks = (k : ℕ) → (holds marks k ≡ true) ↔ ((d : Describe) × Contains ds d × (d.provides ≡ k) × Requires kinds k k)

-- a search for the kinds that a kind requires: it has found the direct ones, and nothing else than such kinds
pub record IsFinding (kinds : List Describe) (number : ℕ) (found : List Bool) : Type 0 where
  pub sound : (k : ℕ) → holds found k ≡ true → Requires kinds number k
  pub begun : (k : ℕ) → Contains (requires_of kinds number) k → holds found k ≡ true

-- of each number the kinds that the kind of that number requires
pub record AreRequired (kinds : List Describe) (sets : List (List Bool)) : Type 0 where
  pub counted : length sets ≡ 65
  pub are : (k j : ℕ) → k < 65 → (holds (slice_index_or sets k []) j ≡ true) ↔ Requires kinds k j

abbrev pub same_part : Part → Part → Bool
same_part Steer Steer = true
same_part Loops Loops = true
same_part Limits Limits = true
same_part Cache Cache = true
same_part Cycles Cycles = true
same_part _ _ = false

abbrev pub has_part : Part → List Part → Bool
has_part part parts = list_any (λ other. same_part other part) parts

-- a description is of the kind or of one that it requires, and reads the part
abbrev pub reads_for : ℕ → List Bool → Part → Describe → Bool
reads_for kind required part d = (d.provides == kind || holds required d.provides) && has_part part d.reads

-- what a registry keeps
pub record IsKnown (kinds : List Describe) (order : List ℕ) (sets : List (List Bool)) : Type 0 where
  pub sound : IsSound kinds
  pub ordered : IsOrderOf kinds order
  pub listed : order ≡ order_of kinds
  pub required : AreRequired kinds sets

-- the least of a number, if there is one, and of what is still to come
abbrev pub least_of : Option ℕ → Option ℕ → Option ℕ
least_of None later = later
least_of (Some k) later = lesser k later
