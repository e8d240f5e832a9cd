-- The lines of steps: what the prices make each step worth, against its cost.
use Rattle.std.specs.Prelude.{ℕ, ◌≡◌, ◌+◌, ◌<◌, ◌≤◌, ◌==◌, ◌⊎◌, Bool, true, false, ℤ, pos, ◌-ℤ◌, ◌*ℤ◌, ◌≤ℤ◌, neg_ℤ, List, Some, length, slice_get}
use Rattle.wc_base.specs.Sums.{chosen}
use Rattle.wc_model.specs.declared.flow_system.System.{System}
use Rattle.wc_model.specs.declared.flow_system.SystemLimit.{SystemLimit}
use Rattle.wc_model.specs.declared.flow_system.SystemLoop.{SystemLoop}
use Rattle.wc_model.specs.declared.flow_system.SystemStep.{SystemStep}
use Rattle.wc_model.specs.Flow.Certificates.{Prices, ahead_of, factor_of, scaled, step_price}
use Rattle.wc_model.specs.Flow.Places.{is_listed, number_at}
use Rattle.wc_model.specs.Flow.SystemWalks.{cost_at}
use Rattle.wc_dual.specs.Wide.{IsOut}
use Rattle.wc_dual.specs.Inner.Blocks.{Adds, CannotPut}
use Rattle.wc_dual.specs.declared.prices.PriceLists.{PriceLists}

abbrev pub listed : PriceLists → Prices
listed p = record { u = number_at p.u.now; v = number_at p.v.now; w = number_at p.w.now }

pub record Fit (s : System) (p : PriceLists) : Type 0 where
  pub nodes : length p.u.now ≡ s.nodes
  pub loops : length p.v.now ≡ length s.loops
  pub limits : length p.w.now ≡ length s.limits

-- the potentials' part
abbrev pub start_of : (ℕ → ℤ) → SystemStep → ℤ
start_of u t = u t.source -ℤ ahead_of u t.target

abbrev pub AreStarts : List SystemStep → (ℕ → ℤ) → ℕ → ℕ → List ℤ → Type 0
AreStarts steps u first count sums = (k : ℕ) (t : SystemStep) → k < count → slice_get steps (first + k) ≡ Some t → number_at sums k ≡ start_of u t

abbrev pub HasWideStart : List SystemStep → (ℕ → ℤ) → Type 0
HasWideStart steps u = (i : ℕ) × (t : SystemStep) × (slice_get steps i ≡ Some t) × IsOut (start_of u t)

-- the loops' part
abbrev pub back_term : (ℕ → ℤ) → ℕ → SystemLoop → ℕ → ℤ
back_term v k l i = chosen (is_listed i l.back) (v k)

abbrev pub entry_term : (ℕ → ℤ) → ℕ → SystemLoop → ℕ → ℤ
entry_term v k l i = neg_ℤ (chosen (is_listed i l.entry) (pos l.bound *ℤ v k))

abbrev pub IsWideBound : SystemLoop → ℤ → Type 0
IsWideBound l price = (i : ℕ) × (is_listed i l.entry ≡ true) × IsOut (pos l.bound *ℤ price)

abbrev pub HasWideBound : List SystemLoop → (ℕ → ℤ) → Type 0
HasWideBound loops v = (k : ℕ) × (l : SystemLoop) × (slice_get loops k ≡ Some l) × IsWideBound l (v k)

-- the limits' part
abbrev pub limit_term : List SystemStep → (ℕ → ℤ) → ℕ → SystemLimit → ℕ → ℤ
limit_term steps w k l i = cost_at (λ t. factor_of t.source l.factors *ℤ w k) (slice_get steps i)

abbrev pub IsWideFactor : List SystemStep → SystemLimit → ℤ → Type 0
IsWideFactor steps l price = (i : ℕ) × (t : SystemStep) × (slice_get steps i ≡ Some t) × IsOut (factor_of t.source l.factors *ℤ price)

abbrev pub HasWideFactor : List SystemStep → List SystemLimit → (ℕ → ℤ) → Type 0
HasWideFactor steps limits w = (k : ℕ) × (l : SystemLimit) × (slice_get limits k ≡ Some l) × IsWideFactor steps l (w k)

-- one factor, for the steps of its node
abbrev pub pay : ℕ × ℤ → ℤ → SystemStep → ℤ
pay f price t = chosen (t.source == f.0) (f.1 *ℤ price)

abbrev pub CannotPay : List SystemStep → ℕ × ℤ → ℤ → ℕ → List ℤ → Type 0
CannotPay steps f price first old = (i : ℕ) × (t : SystemStep) × (slice_get steps i ≡ Some t) × (t.source ≡ f.0) × (IsOut (f.1 *ℤ price) ⊎ CannotPut first i (f.1 *ℤ price) old)

abbrev pub IsPaid : List SystemStep → ℕ × ℤ → ℤ → ℕ → List ℤ → List ℤ → Bool → Type 0
IsPaid steps f price first old new true = Adds first (λ i. cost_at (pay f price) (slice_get steps i)) old new
IsPaid steps f price first old new false = CannotPay steps f price first old

-- for the step at one place
abbrev pub IsStepPaid : ℕ → SystemStep → ℕ × ℤ → ℤ → ℕ → List ℤ → List ℤ → Bool → Type 0
IsStepPaid place t f price first old new true = Adds first (λ i. chosen (place == i) (pay f price t)) old new
IsStepPaid place t f price first old new false = (t.source ≡ f.0) × (IsOut (f.1 *ℤ price) ⊎ CannotPut first place (f.1 *ℤ price) old)

-- the whole line
abbrev pub AreLines : System → Prices → ℕ → List ℤ → Type 0
AreLines s prices first sums = (k : ℕ) (t : SystemStep) → k < length sums → slice_get s.steps (first + k) ≡ Some t → number_at sums k ≡ step_price s prices (first + k) t

-- each step of a block is worth its cost
abbrev pub AreMet : List SystemStep → ℤ → ℕ → ℕ → List ℤ → Type 0
AreMet steps scale first count sums = (k : ℕ) (t : SystemStep) → k < count → slice_get steps (first + k) ≡ Some t → scaled scale t ≤ℤ number_at sums k

abbrev pub HasWideCost : List SystemStep → ℤ → Type 0
HasWideCost steps scale = (i : ℕ) × (t : SystemStep) × (slice_get steps i ≡ Some t) × IsOut (scaled scale t)

-- the steps from a place up to another are worth their costs
abbrev pub ArePriced : System → Prices → ℤ → ℕ → ℕ → Type 0
ArePriced s prices scale from to = (i : ℕ) (t : SystemStep) → from ≤ i → i < to → slice_get s.steps i ≡ Some t → scaled scale t ≤ℤ step_price s prices i t
