-- Steps by the node that they leave.
use Rattle.std.specs.Prelude.{ℕ, ◌≡◌, ◌<◌, ◌≤◌, ◌==◌, ℤ, pos, List, Option, None, Some, slice_get}
use Rattle.std.specs.List.Sorted.{IsNonDecreasingBy}
use Rattle.wc_base.specs.Sums.{chosen}
use Rattle.wc_model.specs.declared.flow_system.SystemStep.{SystemStep}
use Rattle.wc_model.specs.Flow.Counts.{out_of}
use Rattle.wc_dual.specs.Wide.{Leaves}
use Rattle.wc_dual.specs.declared.sources.Places.{Places}

abbrev pub AreBySource : List SystemStep → Type 0
AreBySource steps = IsNonDecreasingBy (λ t. t.source) steps

-- all steps of a node are among some places
abbrev pub HasAll : List SystemStep → ℕ → Places → Type 0
HasAll steps node places = (i : ℕ) (t : SystemStep) → slice_get steps i ≡ Some t → t.source ≡ node → (places.first ≤ i) × (i < places.end)

-- the steps before a place leave smaller nodes, the others don't
abbrev pub IsFrom : List SystemStep → ℕ → ℕ → Type 0
IsFrom steps node place = (i : ℕ) (t : SystemStep) → slice_get steps i ≡ Some t → (i < place → t.source < node) × (place ≤ i → node ≤ t.source)

-- the count of a step that leaves a node
abbrev pub leaving : (ℕ → ℤ) → ℕ → ℕ → SystemStep → ℤ
leaving x node i t = chosen (t.source == node) (x i)

-- the visits of a node, or that their sum leaves the range
abbrev pub IsVisits : List SystemStep → (ℕ → ℤ) → ℕ → Option ℤ → Type 0
IsVisits steps x node (Some z) = z ≡ out_of steps x node
IsVisits steps x node None = Leaves (pos 0) (leaving x node) steps
