-- The value of counts and that of prices.
use Rattle.std.specs.Prelude.{ℕ, ◌≡◌, ◌==◌, ℤ, pos, ◌*ℤ◌, List, Option, None, Some, slice_get}
use Rattle.wc_base.specs.Sums.{chosen}
use Rattle.wc_model.specs.declared.flow_system.System.{System}
use Rattle.wc_model.specs.declared.flow_system.SystemLimit.{SystemLimit}
use Rattle.wc_model.specs.declared.flow_system.SystemLoop.{SystemLoop}
use Rattle.wc_model.specs.declared.flow_system.SystemStep.{SystemStep}
use Rattle.wc_model.specs.Flow.Certificates.{Prices, dual_value}
use Rattle.wc_model.specs.Flow.Counts.{cycles}
use Rattle.wc_dual.specs.Wide.{IsOut, IsWideDual}

abbrev pub value_term : (ℕ → ℤ) → ℕ → SystemStep → ℤ
value_term x i t = cycles t *ℤ x i

abbrev pub HasWideValue : List SystemStep → (ℕ → ℤ) → Type 0
HasWideValue steps x = (i : ℕ) × (t : SystemStep) × (slice_get steps i ≡ Some t) × IsOut (cycles t *ℤ x i)

-- the price of a loop whose head is the start
abbrev pub round_term : ℕ → (ℕ → ℤ) → ℕ → SystemLoop → ℤ
round_term start v k l = chosen (l.head == start) (pos l.bound *ℤ v k)

abbrev pub IsWideRound : ℕ → SystemLoop → ℤ → Type 0
IsWideRound start l price = (l.head ≡ start) × IsOut (pos l.bound *ℤ price)

abbrev pub HasWideRound : ℕ → List SystemLoop → (ℕ → ℤ) → Type 0
HasWideRound start loops v = (k : ℕ) × (l : SystemLoop) × (slice_get loops k ≡ Some l) × IsWideRound start l (v k)

abbrev pub constant_term : (ℕ → ℤ) → ℕ → SystemLimit → ℤ
constant_term w k l = l.constant *ℤ w k

abbrev pub HasWideConstant : List SystemLimit → (ℕ → ℤ) → Type 0
HasWideConstant limits w = (k : ℕ) × (l : SystemLimit) × (slice_get limits k ≡ Some l) × IsOut (l.constant *ℤ w k)

abbrev pub IsDual : System → Prices → Option ℤ → Type 0
IsDual s prices (Some z) = z ≡ dual_value s prices
IsDual s prices None = IsWideDual s prices
