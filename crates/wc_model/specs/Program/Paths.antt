-- Paths from the start of a function to its exit, and what each step costs beside its fetch.
use Rattle.std.specs.Prelude.{ℕ, ◌≡◌, ◌+◌, ◌*◌, Bool, if◌then◌else◌, List, [], ◌∷◌, Option, None, Some, Contains}
use Rattle.wc_model.specs.declared.instructions.Class.{Class}
use Rattle.wc_model.specs.declared.instructions.Class.TheVariants.{Alu, Mul, Div, Load, Store, Multi, Branch, System}
use Rattle.wc_model.specs.declared.instructions.Insn.{Insn}
use Rattle.wc_model.specs.declared.machine.Cycles.{Cycles}
use Rattle.wc_model.specs.Program.Steps.{Move}

-- a path from `p` to the exit: each step leaves the target of the one before, and the last one leaves the function
module _ {P : Type 0} (steps : P → List (Move P)) where
  abbrev pub IsPath : P → List (Move P) → Type 0
  IsPath p [] = ⊥
  IsPath p (s ∷ []) = Contains (steps p) s × (s.source ≡ p) × (s.target ≡ None)
  IsPath p (s ∷ t ∷ path) = Contains (steps p) s × (s.source ≡ p) × (s.target ≡ Some t.source) × IsPath t.source (t ∷ path)

-- the cycles of a class
abbrev pub class_cycles : Cycles → Class → ℕ
class_cycles c Alu = c.alu
class_cycles c Mul = c.mul
class_cycles c Div = c.div
class_cycles c Load = c.load
class_cycles c Store = c.store
class_cycles c Multi = c.multi
class_cycles c Branch = c.branch
class_cycles c System = c.system

-- a step costs the cycles of its class, those of the registers that it moves, and those of being taken
abbrev pub insn_cycles : Cycles → Bool → Insn → ℕ
insn_cycles c taken insn = class_cycles c insn.class + c.per_register * insn.moved + (if taken then c.taken else 0)

abbrev pub known_cycles : Cycles → Bool → Option Insn → ℕ
known_cycles c taken None = 0
known_cycles c taken (Some insn) = insn_cycles c taken insn
