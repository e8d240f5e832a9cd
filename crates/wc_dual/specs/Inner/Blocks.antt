-- The sums of some nodes or steps that follow each other: the sum at place k of a block is that of `first + k`.
use Rattle.std.specs.Prelude.{ℕ, ◌≡◌, ◌+◌, ◌-◌, ◌<◌, ◌≤◌, ◌==◌, Bool, true, false, ℤ, neg_ℤ, Option, None, Some, pos, ◌+ℤ◌, ◌-ℤ◌, List, take, length}
use Rattle.wc_base.specs.Sums.{sum_placed, chosen}
use Rattle.wc_model.specs.declared.flow_system.SystemStep.{SystemStep}
use Rattle.wc_model.specs.Flow.Places.{number_at}
use Rattle.wc_model.specs.Flow.Systems.{leads_to}
use Rattle.wc_dual.specs.Wide.{IsOut, Leaves, balance}

-- a test of a claim
abbrev pub Tells : Type 0 → Bool → Type 0
Tells Claim true = Claim
Tells Claim false = Claim → ⊥

-- what each sum becomes
abbrev pub Adds : ℕ → (ℕ → ℤ) → List ℤ → List ℤ → Type 0
Adds first f old new = (length new ≡ length old) × ((k : ℕ) → k < length old → number_at new k ≡ number_at old k +ℤ f (first + k))

-- the node's own sum would leave the range
abbrev pub CannotPut : ℕ → ℕ → ℤ → List ℤ → Type 0
CannotPut first node amount old = (first ≤ node) × (node - first < length old) × IsOut (number_at old (node - first) +ℤ amount)

abbrev pub CannotAdd : ℕ → (ℕ → ℤ) → List ℤ → Type 0
CannotAdd first f old = (k : ℕ) × (k < length old) × IsOut (number_at old k +ℤ f (first + k))

-- one turn: all sums are there, or one can't be
abbrev pub IsTurn : ℕ → (ℕ → ℤ) → List ℤ → List ℤ → Bool → Type 0
IsTurn first f old new true = Adds first f old new
IsTurn first f old new false = CannotAdd first f old

abbrev pub CannotTake : ℕ → Option ℕ → ℤ → List ℤ → Type 0
CannotTake first None amount old = ⊥
CannotTake first (Some node) amount old = CannotPut first node (neg_ℤ amount) old

-- the balances of nodes, of the first steps
abbrev pub AreBalances : List SystemStep → (ℕ → ℤ) → ℕ → ℕ → List ℤ → Type 0
AreBalances steps x first place sums = (k : ℕ) → k < length sums → number_at sums k ≡ sum_placed (balance x (first + k)) (take place steps)

abbrev pub balance_of : ℤ → SystemStep → ℕ → ℤ
balance_of amount t p = chosen (t.source == p) amount -ℤ chosen (leads_to t.target p) amount

-- the balance of a node of the block leaves the range
abbrev pub LeavesIn : List SystemStep → (ℕ → ℤ) → ℕ → ℕ → Type 0
LeavesIn steps x first count = (k : ℕ) × (k < count) × Leaves (pos 0) (balance x (first + k)) steps
