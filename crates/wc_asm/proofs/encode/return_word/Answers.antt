use Rattle.std.proofs.Common.{◌+◌, sym, subst}
use Rattle.wc_model.specs.declared.instructions.Class.TheVariants.{Multi}
use Rattle.wc_model.specs.declared.instructions.Control.TheVariants.{Return}
use Rattle.wc_asm.specs.Readings.{ReadsBack}
use Rattle.wc_asm.proofs.ReadBack.{return_multi, return_multi_if}
use Rattle.wc_asm.proofs.encode.return_word.Goals as goal

pub returns-in-Multi-clause-read : goal.returns-in-Multi-clause-read
returns-in-Multi-clause-read c = λ at. rw c.in-Multi.is (subst (λ w. ReadsBack at Multi c.args.moved Return (0xE8BD8000 + w)) (sym c.low_ones.ensures.value) (return_multi at c.args.moved c.if-moved-ge1.true c.if-moved-le13.true, return_multi_if at c.args.moved c.if-moved-ge1.true c.if-moved-le13.true))
