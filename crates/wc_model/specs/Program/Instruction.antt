-- The instruction of an A32 word. The table is this project's own, after the encodings of the ARM
-- Architecture Reference Manual, ARMv7-A and ARMv7-R edition, chapter A5; its bits alone decide.
use Rattle.std.specs.Prelude.{ℕ, ◌≡◌, ◌≢◌, ◌≤◌, ◌+◌, ◌*◌, ◌-◌, ◌^◌, ◌/◌, ◌%◌, Bool, true, not, ◌&&◌, ◌||◌, ◌==◌, nat_le, if◌then◌else◌, List, [], ◌∷◌, Option, None, Some}
use Rattle.std.specs.Int.Count.{ones}
use Rattle.wc_model.specs.declared.instructions.Class.{Class}
use Rattle.wc_model.specs.declared.instructions.Class.TheVariants.{Alu, Mul, Div, Load, Store, Multi, Branch, System}
use Rattle.wc_model.specs.declared.instructions.Control.{Control}
use Rattle.wc_model.specs.declared.instructions.Control.TheVariants.{Next, Jump, Call, Return, IndirectJump, IndirectCall}
use Rattle.wc_model.specs.declared.instructions.Insn.{Insn}

-- bits `high` to `low` of a word, as the manual writes `<high:low>`
abbrev pub field : ℕ → ℕ → ℕ → ℕ
field word high low = word / 2 ^ low % 2 ^ (high + 1 - low)

abbrev pub bit : ℕ → ℕ → ℕ
bit word place = field word place place

abbrev pub destination : ℕ → ℕ
destination word = field word 15 12

abbrev pub base : ℕ → ℕ
base word = field word 19 16

-- the address that the instruction forms is written back to the base
abbrev pub writes_back : ℕ → Bool
writes_back word = bit word 24 == 0 || bit word 21 == 1

-- an instruction that leads to the next address alone
abbrev pub next : Class → ℕ → Option Insn
next class moved = Some (record { class = class; moved = moved; control = Next; always = true })

-- an instruction that leads elsewhere, and always where its condition is AL
abbrev pub turns : ℕ → Class → ℕ → Control → Option Insn
turns word class moved control = Some (record { class = class; moved = moved; control = control; always = field word 31 28 == 14 })

abbrev pub unless : Bool → Option Insn → Option Insn
unless unknown says = if unknown then None else says

-- A5.7 Unconditional instructions: DSB, DMB, ISB
abbrev pub is_unconditional : ℕ → Bool
is_unconditional word = field word 31 28 == 15

abbrev pub is_barrier : ℕ → Bool
is_barrier word = field word 31 4 == 0xF57FF04 || field word 31 4 == 0xF57FF05 || field word 31 4 == 0xF57FF06

abbrev pub barrier : ℕ → Option Insn
barrier word = if is_barrier word then next System 0 else None

-- A5.2.12 Miscellaneous instructions: BX, BLX (register)
abbrev pub is_branch_exchange : ℕ → Bool
is_branch_exchange word = field word 27 4 == 0x12FFF1

abbrev pub is_to_link_register : ℕ → Bool
is_to_link_register word = field word 3 0 == 14

abbrev pub branch_exchange : ℕ → Option Insn
branch_exchange word = turns word Branch 0 (if is_to_link_register word then Return else IndirectJump)

abbrev pub is_branch_link_exchange : ℕ → Bool
is_branch_link_exchange word = field word 27 4 == 0x12FFF3

-- A5.2.11 MSR (immediate), and hints: NOP
abbrev pub is_no_operation : ℕ → Bool
is_no_operation word = field word 27 0 == 0x320F000

-- A5.2 Data-processing and miscellaneous instructions: MOVW, MOVT
abbrev pub is_move_half : ℕ → Bool
is_move_half word = field word 27 20 == 0x30 || field word 27 20 == 0x34

abbrev pub is_to_pc : ℕ → Bool
is_to_pc word = destination word == 15

-- A5.2.12 Miscellaneous instructions: CLZ
abbrev pub is_count_zeros : ℕ → Bool
is_count_zeros word = field word 27 16 == 0x16F && field word 11 4 == 0xF1

-- A5.2.5 Multiply and multiply accumulate: MUL, MLA, MLS, UMULL, UMLAL, SMULL, SMLAL
abbrev pub is_multiply_operation : ℕ → Bool
is_multiply_operation operation = nat_le operation 3 || operation == 6 || nat_le 8 operation

abbrev pub is_multiply : ℕ → Bool
is_multiply word = field word 27 24 == 0 && field word 7 4 == 9 && is_multiply_operation (field word 23 20)

abbrev pub is_multiply_to_pc : ℕ → Bool
is_multiply_to_pc word = base word == 15 || (destination word == 15 && nat_le 8 (field word 23 20))

-- A5.2.8 Extra load/store instructions: LDRH, LDRSB, LDRSH, LDRD, STRH, STRD
abbrev pub is_extra_transfer : ℕ → Bool
is_extra_transfer word = field word 27 25 == 0 && bit word 7 == 1 && bit word 4 == 1 && not (field word 6 5 == 0)

abbrev pub is_load_two : ℕ → Bool
is_load_two word = bit word 20 == 0 && field word 6 5 == 2

abbrev pub is_pc_written_back : ℕ → Bool
is_pc_written_back word = writes_back word && base word == 15

abbrev pub is_bad_extra_transfer : ℕ → Bool
is_bad_extra_transfer word = is_pc_written_back word || (bit word 20 == 1 && is_to_pc word) || (is_load_two word && nat_le 14 (destination word))

abbrev pub extra_transfer : ℕ → Option Insn
extra_transfer word = unless (is_bad_extra_transfer word) (next (if bit word 20 == 1 || is_load_two word then Load else Store) 0)

-- A5.2.1, A5.2.2, A5.2.3 Data-processing (register, register-shifted register, immediate); what has bits
-- 24:23 = 10 and bit 20 = 0 stands in A5.2.6, A5.2.7, A5.2.11 and A5.2.12
abbrev pub is_register_operand : ℕ → Bool
is_register_operand word = field word 27 25 == 0 && (bit word 4 == 0 || bit word 7 == 0)

abbrev pub is_miscellaneous : ℕ → Bool
is_miscellaneous word = field word 24 23 == 2 && bit word 20 == 0

abbrev pub is_data_processing : ℕ → Bool
is_data_processing word = (field word 27 25 == 1 || is_register_operand word) && not (is_miscellaneous word)

-- TST, TEQ, CMP, CMN write flags alone
abbrev pub is_comparison : ℕ → Bool
is_comparison word = field word 24 23 == 2

abbrev pub is_shift_by_register : ℕ → Bool
is_shift_by_register word = bit word 25 == 0 && bit word 4 == 1

-- MOV PC, LR returns
abbrev pub to_pc : ℕ → Option Insn
to_pc word = if field word 27 0 == 0x1A0F00E then turns word Alu 0 Return else unless (is_shift_by_register word) (turns word Alu 0 IndirectJump)

abbrev pub data_processing : ℕ → Option Insn
data_processing word = if is_to_pc word && not (is_comparison word) then to_pc word else next Alu 0

-- A5.3 Load/store word and unsigned byte: LDR, STR, LDRB, STRB
abbrev pub is_transfer : ℕ → Bool
is_transfer word = field word 27 25 == 2 || (field word 27 25 == 3 && bit word 4 == 0)

abbrev pub is_byte_load_to_pc : ℕ → Bool
is_byte_load_to_pc word = bit word 20 == 1 && bit word 22 == 1 && is_to_pc word

-- LDR PC, [SP], #4 returns
abbrev pub load_word_or_byte : ℕ → Option Insn
load_word_or_byte word = if is_to_pc word then turns word Load 0 (if field word 27 0 == 0x49DF004 then Return else IndirectJump) else next Load 0

abbrev pub transfer : ℕ → Option Insn
transfer word = unless (is_pc_written_back word || is_byte_load_to_pc word) (if bit word 20 == 1 then load_word_or_byte word else next Store 0)

-- A5.4.4 Signed multiply, signed and unsigned divide: SDIV, UDIV
abbrev pub is_divide : ℕ → Bool
is_divide word = (field word 27 20 == 0x71 || field word 27 20 == 0x73) && destination word == 15 && field word 7 4 == 1

-- A5.4.3 Packing, unpacking, saturation, and reversal: SXTB, SXTH, UXTB, UXTH, and REV
abbrev pub is_extend : ℕ → Bool
is_extend word = (field word 27 16 == 0x6AF || field word 27 16 == 0x6BF || field word 27 16 == 0x6EF || field word 27 16 == 0x6FF) && field word 9 4 == 7

abbrev pub is_reverse : ℕ → Bool
is_reverse word = field word 27 16 == 0x6BF && field word 11 4 == 0xF3

-- A5.4 Media instructions: UBFX, SBFX; BFI, BFC
abbrev pub is_bit_field : ℕ → Bool
is_bit_field word = ((field word 27 21 == 0x3F || field word 27 21 == 0x3D) && field word 6 4 == 5) || (field word 27 21 == 0x3E && field word 6 4 == 1)

-- A5.5 Branch, branch with link, and block data transfer: LDM, STM
abbrev pub is_multiple : ℕ → Bool
is_multiple word = field word 27 25 == 4

abbrev pub is_bad_multiple : ℕ → Bool
is_bad_multiple word = field word 15 0 == 0 || (bit word 21 == 1 && base word == 15)

abbrev pub is_multiple_to_pc : ℕ → Bool
is_multiple_to_pc word = bit word 20 == 1 && bit word 15 == 1

-- a load of the PC by way of the stack pointer or the frame pointer returns
abbrev pub is_multiple_return : ℕ → Bool
is_multiple_return word = bit word 22 == 0 && (base word == 13 || base word == 11)

abbrev pub moved_registers : ℕ → ℕ
moved_registers word = ones (field word 15 0)

abbrev pub known_multiple : ℕ → Option Insn
known_multiple word = if is_multiple_to_pc word then turns word Multi (moved_registers word) (if is_multiple_return word then Return else IndirectJump) else next Multi (moved_registers word)

abbrev pub multiple : ℕ → Option Insn
multiple word = unless (is_bad_multiple word) (known_multiple word)

-- A5.5: B, BL. The target is the address plus 8 plus 4 times the signed number in bits 23:0, modulo 2^32
abbrev pub is_branch : ℕ → Bool
is_branch word = field word 27 25 == 5

abbrev pub branch_offset : ℕ → ℕ
branch_offset word = if bit word 23 == 1 then 2 ^ 32 - 4 * (2 ^ 24 - field word 23 0) else 4 * field word 23 0

abbrev pub branch_target : ℕ → ℕ → ℕ
branch_target at word = (at + 8 + branch_offset word) % 2 ^ 32

abbrev pub branch : ℕ → ℕ → Option Insn
branch at word = turns word Branch 0 (if bit word 24 == 1 then Call (branch_target at word) else Jump (branch_target at word))

-- A5.6 Coprocessor instructions, and Supervisor Call: SVC
abbrev pub is_supervisor_call : ℕ → Bool
is_supervisor_call word = field word 27 24 == 15

-- the rows of the table: which words a row takes, and what it says of them
abbrev pub rows : ℕ → ℕ → List (Bool × Option Insn)
rows at word =
    (is_unconditional word, barrier word)
    ∷ (is_branch_exchange word, branch_exchange word)
    ∷ (is_branch_link_exchange word, turns word Branch 0 IndirectCall)
    ∷ (is_no_operation word, next Alu 0)
    ∷ (is_move_half word, unless (is_to_pc word) (next Alu 0))
    ∷ (is_count_zeros word, unless (is_to_pc word) (next Alu 0))
    ∷ (is_multiply word, unless (is_multiply_to_pc word) (next Mul 0))
    ∷ (is_extra_transfer word, extra_transfer word)
    ∷ (is_data_processing word, data_processing word)
    ∷ (is_transfer word, transfer word)
    ∷ (is_divide word, unless (base word == 15) (next Div 0))
    ∷ (is_extend word, unless (is_to_pc word) (next Alu 0))
    ∷ (is_bit_field word, unless (is_to_pc word) (next Alu 0))
    ∷ (is_reverse word, unless (is_to_pc word) (next Alu 0))
    ∷ (is_multiple word, multiple word)
    ∷ (is_branch word, branch at word)
    ∷ (is_supervisor_call word, next System 0)
    ∷ []

-- the first row that takes the word decides
abbrev pub first_row : List (Bool × Option Insn) → Option Insn
first_row [] = None
first_row (row ∷ later) = if row.0 then row.1 else first_row later

abbrev pub insn_of : ℕ → ℕ → Option Insn
insn_of at word = first_row (rows at word)

-- registers are moved by a load or store multiple alone, and at most sixteen; what leads on leads on always
pub record IsSound (insn : Insn) : Type 0 where
  pub few : insn.moved ≤ 16
  pub none : insn.class ≢ Multi → insn.moved ≡ 0
  pub always : insn.control ≡ Next → insn.always ≡ true
