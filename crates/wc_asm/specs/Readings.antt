-- What a word of an instruction is read as.
use Rattle.std.specs.Prelude.{ℕ, ◌≡◌, ◌-◌, Bool, true, false, Option, Some}
use Rattle.wc_model.specs.declared.instructions.Class.{Class}
use Rattle.wc_model.specs.declared.instructions.Control.{Control}
use Rattle.wc_model.specs.declared.instructions.Insn.{Insn}
use Rattle.wc_model.specs.Program.Instruction.{insn_of}

abbrev pub turned : Class → ℕ → Control → Bool → Option Insn
turned class moved control always = Some (record { class = class; moved = moved; control = control; always = always })

-- the word with condition AL, and the same word with condition NE
abbrev pub ReadsBack : ℕ → Class → ℕ → Control → ℕ → Type 0
ReadsBack at class moved control word =
    (insn_of at word ≡ turned class moved control true) × (insn_of at (word - 0xD0000000) ≡ turned class moved control false)
