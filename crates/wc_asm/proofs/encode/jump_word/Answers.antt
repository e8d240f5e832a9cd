use Rattle.std.proofs.Common.{sym, subst, IfSome}
use Rattle.wc_model.specs.declared.instructions.Class.TheVariants.{Branch}
use Rattle.wc_model.specs.declared.instructions.Control.TheVariants.{Jump}
use Rattle.wc_asm.specs.Readings.{ReadsBack}
use Rattle.wc_asm.proofs.ReadBack.{jump_back}
use Rattle.wc_asm.proofs.encode.jump_word.Goals as goal

pub returns-clause-read : goal.returns-clause-read
returns-clause-read c = subst (λ w. IfSome w (ReadsBack c.args.at Branch 0 (Jump c.args.target))) (sym c.branch_word.ensures) (jump_back c.args.at c.args.target c.ranges.at.fits c.ranges.target.fits)
