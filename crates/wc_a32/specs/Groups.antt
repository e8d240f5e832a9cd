-- The rows of the table that may take a word, by bits 27:25.
use Rattle.std.specs.Prelude.{ℕ, Bool, ◌==◌, List, [], ◌∷◌, Option}
use Rattle.wc_model.specs.declared.instructions.Class.TheVariants.{Alu, Mul, Div, Branch}
use Rattle.wc_model.specs.declared.instructions.Control.TheVariants.{IndirectCall}
use Rattle.wc_model.specs.declared.instructions.Insn.{Insn}
use Rattle.wc_model.specs.Program.Instruction.{base, next, turns, unless, is_to_pc, is_branch_exchange, branch_exchange, is_branch_link_exchange, is_no_operation, is_move_half, is_count_zeros, is_multiply, is_multiply_to_pc, is_extra_transfer, extra_transfer, is_data_processing, data_processing, is_divide, is_extend, is_bit_field, is_reverse}

-- bits 27:25 = 000 with bits 7 and 4 set
abbrev pub extension_rows : ℕ → List (Bool × Option Insn)
extension_rows word =
    (is_multiply word, unless (is_multiply_to_pc word) (next Mul 0))
    ∷ (is_extra_transfer word, extra_transfer word)
    ∷ []

-- bits 27:25 = 000 with bit 7 or bit 4 clear
abbrev pub register_rows : ℕ → List (Bool × Option Insn)
register_rows word =
    (is_branch_exchange word, branch_exchange word)
    ∷ (is_branch_link_exchange word, turns word Branch 0 IndirectCall)
    ∷ (is_count_zeros word, unless (is_to_pc word) (next Alu 0))
    ∷ (is_data_processing word, data_processing word)
    ∷ []

-- bits 27:25 = 001
abbrev pub immediate_rows : ℕ → List (Bool × Option Insn)
immediate_rows word =
    (is_no_operation word, next Alu 0)
    ∷ (is_move_half word, unless (is_to_pc word) (next Alu 0))
    ∷ (is_data_processing word, data_processing word)
    ∷ []

-- bits 27:25 = 011 with bit 4 set
abbrev pub media_rows : ℕ → List (Bool × Option Insn)
media_rows word =
    (is_divide word, unless (base word == 15) (next Div 0))
    ∷ (is_extend word, unless (is_to_pc word) (next Alu 0))
    ∷ (is_bit_field word, unless (is_to_pc word) (next Alu 0))
    ∷ (is_reverse word, unless (is_to_pc word) (next Alu 0))
    ∷ []
