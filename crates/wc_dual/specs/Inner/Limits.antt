-- The rows of limits.
use Rattle.std.specs.Prelude.{ℕ, ◌≡◌, ℤ, pos, ◌*ℤ◌, List, Some, Contains, slice_get}
use Rattle.wc_model.specs.declared.flow_system.System.{System}
use Rattle.wc_model.specs.declared.flow_system.SystemLimit.{SystemLimit}
use Rattle.wc_model.specs.declared.flow_system.SystemStep.{SystemStep}
use Rattle.wc_model.specs.Flow.Counts.{out_of}
use Rattle.wc_dual.specs.Wide.{IsOut, Leaves}
use Rattle.wc_dual.specs.Inner.Sources.{leaving}

-- a factor times the visits of its node
abbrev pub factor_term : List SystemStep → (ℕ → ℤ) → ℕ → ℕ × ℤ → ℤ
factor_term steps x _ f = f.1 *ℤ out_of steps x f.0

-- the visits of a factor's node, or the product, leave the range
pub data IsWideTerm (steps : List SystemStep) (x : ℕ → ℤ) (f : ℕ × ℤ) : Type 0 where
  visits : Leaves (pos 0) (leaving x f.0) steps → IsWideTerm steps x f
  product : IsOut (f.1 *ℤ out_of steps x f.0) → IsWideTerm steps x f

abbrev pub HasWideTerm : List SystemStep → (ℕ → ℤ) → List (ℕ × ℤ) → Type 0
HasWideTerm steps x factors = (k : ℕ) × (f : ℕ × ℤ) × (slice_get factors k ≡ Some f) × IsWideTerm steps x f

-- what is too wide in a limit's row
pub data IsWideLimit (steps : List SystemStep) (den : ℤ) (x : ℕ → ℤ) (l : SystemLimit) : Type 0 where
  term : HasWideTerm steps x l.factors → IsWideLimit steps den x l
  sum : Leaves (pos 0) (factor_term steps x) l.factors → IsWideLimit steps den x l
  constant : IsOut (l.constant *ℤ den) → IsWideLimit steps den x l

abbrev pub HasWideLimit : System → ℤ → (ℕ → ℤ) → Type 0
HasWideLimit s den x = (l : SystemLimit) × Contains s.limits l × IsWideLimit s.steps den x l
