-- Laws of an order of precision: `precise a b` says that `a` is at least as precise as `b`.
use Rattle.std.specs.Prelude.{ℕ}

module _ {State : Type 0} (precise : State → State → Type 0) where
  -- `joined` is at least as precise as all that is at most as precise as both
  abbrev pub IsLeast : State → State → State → Type 0
  IsLeast a b joined = (c : State) → precise a c → precise b c → precise joined c

  abbrev pub KeepsOrder : (State → ℕ → State) → Type 0
  KeepsOrder accessed = (a b : State) (line : ℕ) → precise a b → precise (accessed a line) (accessed b line)
