-- The canonical word of an instruction. Each is a word of the ARM Architecture Reference Manual, ARMv7-A,
-- chapter A8, with condition AL, or NE where the instruction may not be taken.
use Rattle.std.specs.Prelude.{ℕ, ◌+◌, ◌-◌, ◌/◌, ◌%◌, ◌^◌, Bool, ◌&&◌, ◌||◌, ◌==◌, nat_le, nat_lt, if◌then◌else◌, Option, None, Some}
use Rattle.wc_model.specs.declared.instructions.Class.{Class}
use Rattle.wc_model.specs.declared.instructions.Class.TheVariants.{Alu, Mul, Div, Load, Store, Multi, Branch, System}
use Rattle.wc_model.specs.declared.instructions.Control.{Control}
use Rattle.wc_model.specs.declared.instructions.Control.TheVariants.{Next, Jump, Call, Return, IndirectJump, IndirectCall}
use Rattle.wc_model.specs.declared.instructions.Insn.{Insn}

-- from the place two words on to the target, modulo 2^32
abbrev pub distance : ℕ → ℕ → ℕ
distance at target = (target + 2 ^ 33 - at - 8) % 2 ^ 32

-- a multiple of 4 from -2^25 to 2^25 - 4
abbrev pub is_reachable : ℕ → Bool
is_reachable distance = distance % 4 == 0 && (nat_lt distance (2 ^ 25) || nat_le (2 ^ 32 - 2 ^ 25) distance)

-- B and BL: the low 24 bits of a quarter of the distance
abbrev pub branch_word : ℕ → ℕ → Option ℕ
branch_word opcode distance = if is_reachable distance then Some (opcode + distance / 4 % 2 ^ 24) else None

abbrev pub only_if : Bool → Option ℕ → Option ℕ
only_if condition word = if condition then word else None

abbrev pub next_word : Class → ℕ → Option ℕ
next_word Alu moved = only_if (moved == 0) (Some 0xE1A00000)
next_word Mul moved = only_if (moved == 0) (Some 0xE0000190)
next_word Div moved = only_if (moved == 0) (Some 0xE710F110)
next_word Load moved = only_if (moved == 0) (Some 0xE5900000)
next_word Store moved = only_if (moved == 0) (Some 0xE5800000)
next_word Multi moved = only_if (nat_le 1 moved && nat_le moved 15) (Some (0xE8900000 + (2 ^ moved - 1)))
next_word Branch moved = None
next_word System moved = only_if (moved == 0) (Some 0xEF000000)

abbrev pub return_word : Class → ℕ → Option ℕ
return_word Alu moved = only_if (moved == 0) (Some 0xE1A0F00E)
return_word Load moved = only_if (moved == 0) (Some 0xE49DF004)
return_word Multi moved = only_if (nat_le 1 moved && nat_le moved 13) (Some (0xE8BD8000 + (2 ^ (moved - 1) - 1)))
return_word Branch moved = only_if (moved == 0) (Some 0xE12FFF1E)
return_word _ moved = None

abbrev pub indirect_jump_word : Class → ℕ → Option ℕ
indirect_jump_word Alu moved = only_if (moved == 0) (Some 0xE1A0F000)
indirect_jump_word Load moved = only_if (moved == 0) (Some 0xE590F000)
indirect_jump_word Branch moved = only_if (moved == 0) (Some 0xE12FFF10)
indirect_jump_word _ moved = None

-- an instruction of class Branch without registers
abbrev pub branch_only : Class → ℕ → Option ℕ → Option ℕ
branch_only Branch moved word = only_if (moved == 0) word
branch_only _ moved word = None

-- the word with condition AL of an instruction that doesn't lead on
abbrev pub turning_word : ℕ → Class → ℕ → Control → Option ℕ
turning_word at class moved Next = None
turning_word at class moved (Jump target) = branch_only class moved (branch_word 0xEA000000 (distance at target))
turning_word at class moved (Call target) = branch_only class moved (branch_word 0xEB000000 (distance at target))
turning_word at class moved Return = return_word class moved
turning_word at class moved IndirectJump = indirect_jump_word class moved
turning_word at class moved IndirectCall = branch_only class moved (Some 0xE12FFF30)

-- condition NE in place of AL
abbrev pub conditional : Option ℕ → Option ℕ
conditional None = None
conditional (Some word) = Some (word - 0xD0000000)

abbrev pub of_control : ℕ → Class → ℕ → Control → Bool → Option ℕ
of_control at class moved Next always = only_if always (next_word class moved)
of_control at class moved control always = if always then turning_word at class moved control else conditional (turning_word at class moved control)

abbrev pub canonical : ℕ → Insn → Option ℕ
canonical at insn = of_control at insn.class insn.moved insn.control insn.always
