-- Counts of a system's steps over a common denominator, and which are feasible. After Li and Malik 1995.
use Rattle.std.specs.Prelude.{ℕ, ◌≡◌, ◌<◌, ℤ, pos, ◌+ℤ◌, ◌-ℤ◌, ◌*ℤ◌, ◌≤ℤ◌, ◌<ℤ◌, ◌==◌, List, length, All}
use Rattle.wc_base.specs.Sums.{sum_placed, sum_in, chosen}
use Rattle.wc_model.specs.declared.flow_system.System.{System}
use Rattle.wc_model.specs.declared.flow_system.SystemLimit.{SystemLimit}
use Rattle.wc_model.specs.declared.flow_system.SystemLoop.{SystemLoop}
use Rattle.wc_model.specs.declared.flow_system.SystemStep.{SystemStep}
use Rattle.wc_model.specs.Flow.Systems.{leads_to}

-- `x i` is the count of the step at place `i`: what leaves a node, and what comes into it
abbrev pub out_of : List SystemStep → (ℕ → ℤ) → ℕ → ℤ
out_of steps x p = sum_placed (λ i t. chosen (t.source == p) (x i)) steps

abbrev pub into : List SystemStep → (ℕ → ℤ) → ℕ → ℤ
into steps x p = sum_placed (λ i t. chosen (leads_to t.target p) (x i)) steps

-- a loop is entered by its entry steps, and once more where its head is the start
abbrev pub entered : ℕ → ℤ → (ℕ → ℤ) → SystemLoop → ℤ
entered start den x l = sum_in x l.entry +ℤ chosen (l.head == start) den

-- the back steps are at most `bound` times the entries
abbrev pub IsBounded : ℕ → ℤ → (ℕ → ℤ) → SystemLoop → Type 0
IsBounded start den x l = sum_in x l.back ≤ℤ (pos l.bound *ℤ entered start den x l)

-- the visits of a node are the counts of the steps that leave it
abbrev pub IsLimited : List SystemStep → ℤ → (ℕ → ℤ) → SystemLimit → Type 0
IsLimited steps den x l = sum_in (λ f. f.1 *ℤ out_of steps x f.0) l.factors ≤ℤ (l.constant *ℤ den)

pub record IsFeasible (s : System) (den : ℤ) (x : ℕ → ℤ) : Type 0 where
  pub whole : pos 0 <ℤ den
  pub some : (i : ℕ) → i < length s.steps → pos 0 ≤ℤ x i
  pub balanced : (p : ℕ) → p < s.nodes → out_of s.steps x p -ℤ into s.steps x p ≡ chosen (s.start == p) den
  pub bounded : All (IsBounded s.start den x) s.loops
  pub limited : All (IsLimited s.steps den x) s.limits

-- the sum of cost times count
abbrev pub value_of : (SystemStep → ℤ) → List SystemStep → (ℕ → ℤ) → ℤ
value_of cost steps x = sum_placed (λ i t. cost t *ℤ x i) steps

abbrev pub cycles : SystemStep → ℤ
cycles t = pos t.cost
