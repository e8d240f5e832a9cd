-- What contracts say of the values that works give.
use Rattle.std.specs.Prelude.{ℕ, List, Contains, Option, None, Some, slice_index_or}
use Rattle.std.specs.Global.{Global}
use Rattle.std.specs.declared.sync.Arc.{Arc}
use Rattle.wc_model.specs.declared.kinds.Describe.{Describe}
use Rattle.wc_model.specs.declared.values.Outcome.{Outcome}
use Rattle.wc_model.specs.declared.values.Outcome.TheVariants.{Memory}
use Rattle.wc_model.specs.Workspace.Closures.{requires_of}

-- What stands at the number of a kind.
abbrev pub arc_at : {V : Type 0} → ℕ → List (Option (Arc V Global)) → Option (Arc V Global)
arc_at kind had = slice_index_or had kind None

abbrev pub value_of : {V : Type 0} → Option (Arc V Global) → Option V
value_of None = None
value_of (Some a) = Some a.value

abbrev pub value_at : {V : Type 0} → ℕ → List (Option (Arc V Global)) → Option V
value_at kind had = value_of (arc_at kind had)

abbrev pub HasFeature : {V : Type 0} → (V → Type 0) → Option V → Type 0
HasFeature feature None = ⊥
HasFeature feature (Some v) = feature v

-- A feature of each kind that a kind requires is at hand.
abbrev pub HasRequired : {V : Type 0} → List Describe → (ℕ → V → Type 0) → ℕ → List (Option (Arc V Global)) → Type 0
HasRequired kinds feature kind had = (k : ℕ) → Contains (requires_of kinds kind) k → HasFeature (feature k) (value_at k had)

-- A told outcome is the chain's, and isn't want of memory. Of a value that tells none nothing holds.
abbrev pub Tells : (Outcome → Type 0) → Option Outcome → Type 0
Tells chain None = ⊥
Tells chain (Some Memory) = ⊥
Tells chain (Some outcome) = chain outcome
