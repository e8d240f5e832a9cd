-- The parts of a check, one row after the other.
use Rattle.std.specs.Prelude.{ℕ, ◌≡◌, ◌+◌, ◌<◌, ◌≤◌, ◌==◌, ℤ, pos, ◌-ℤ◌, ◌*ℤ◌, List, Option, None, Some, Contains}
use Rattle.wc_base.specs.Sums.{sum_in, chosen}
use Rattle.wc_model.specs.declared.flow_system.System.{System}
use Rattle.wc_model.specs.declared.flow_system.SystemLoop.{SystemLoop}
use Rattle.wc_model.specs.Flow.Counts.{entered, into, out_of}
use Rattle.wc_model.specs.Flow.Places.{number_at}
use Rattle.wc_dual.specs.Wide.{IsOut, Leaves, balance}

abbrev pub IsBalanced : System → ℤ → (ℕ → ℤ) → ℕ → Type 0
IsBalanced s den x p = out_of s.steps x p -ℤ into s.steps x p ≡ chosen (s.start == p) den

-- the nodes below a number, and those of a block
abbrev pub AreBalanced : System → ℤ → (ℕ → ℤ) → ℕ → Type 0
AreBalanced s den x count = (p : ℕ) → p < count → IsBalanced s den x p

abbrev pub IsBlock : System → ℤ → (ℕ → ℤ) → ℕ → ℕ → Type 0
IsBlock s den x first count = (p : ℕ) → first ≤ p → p < first + count → p < s.nodes → IsBalanced s den x p

abbrev pub HasWideNode : System → (ℕ → ℤ) → Type 0
HasWideNode s x = (p : ℕ) × (p < s.nodes) × Leaves (pos 0) (balance x p) s.steps

-- the sums of a block, up to the last node, are those of balanced nodes
abbrev pub AreWanted : System → ℤ → ℕ → ℕ → List ℤ → Type 0
AreWanted s den first count sums = (k : ℕ) → k < count → first + k < s.nodes → number_at sums k ≡ chosen (s.start == first + k) den

-- a sum over places, or that it leaves the range
abbrev pub IsSumIn : (ℕ → ℤ) → List ℕ → Option ℤ → Type 0
IsSumIn x places (Some z) = z ≡ sum_in x places
IsSumIn x places None = Leaves (pos 0) (λ _ i. x i) places

-- a number, or that it is out of range
abbrev pub IsExact : ℤ → Option ℤ → Type 0
IsExact z (Some number) = number ≡ z
IsExact z None = IsOut z

-- what is too wide in a loop's row
pub data IsWideLoop (start : ℕ) (den : ℤ) (x : ℕ → ℤ) (l : SystemLoop) : Type 0 where
  back : Leaves (pos 0) (λ _ i. x i) l.back → IsWideLoop start den x l
  entry : Leaves (pos 0) (λ _ i. x i) l.entry → IsWideLoop start den x l
  entries : IsOut (entered start den x l) → IsWideLoop start den x l
  allowed : IsOut (pos l.bound *ℤ entered start den x l) → IsWideLoop start den x l

abbrev pub HasWideLoop : System → ℤ → (ℕ → ℤ) → Type 0
HasWideLoop s den x = (l : SystemLoop) × Contains s.loops l × IsWideLoop s.start den x l
