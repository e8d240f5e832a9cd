use Rattle.std.proofs.Common.{◌≡◌, ◌+◌, sym, subst}
use Rattle.wc_model.specs.Program.Instruction.{insn_of, next}
use Rattle.wc_model.specs.declared.instructions.Class.TheVariants.{Multi}
use Rattle.wc_asm.proofs.ReadBack.{next_multi}
use Rattle.wc_asm.proofs.encode.next_word.Goals as goal

pub returns-in-Multi-clause-read : goal.returns-in-Multi-clause-read
returns-in-Multi-clause-read c = λ at. rw c.in-Multi.is (subst (λ w. insn_of at (0xE8900000 + w) ≡ next Multi c.args.moved) (sym c.low_ones.ensures.value) (next_multi at c.args.moved c.if-moved-ge1.true c.if-moved-le15.true))
