use Rattle.std.proofs.Common.{◌++◌}
use Rattle.std.specs.Prelude.{codes}
use Rattle.wc_base.specs.FaultTexts.{address}
use Rattle.wc_f4.specs.FactText.{bound_text, within_text}
use Rattle.wc_io.proofs.WritingLemmas.{Writes_after}
use Rattle.wc_f4.proofs.PrintingLemmas.{Writes_stopped}
use Rattle.wc_f4.proofs.printing.write_loop.Goals as goal

pub returns-in_err-write_bound-clause-text : goal.returns-in_err-write_bound-clause-text
returns-in_err-write_bound-clause-text g c = Writes_stopped _ _ c.from_residual.result (codes "loop " ++ address c.args.at ++ codes " " ++ bound_text c.args.bound) (within_text c.args.within.now ++ codes ";") c.from_residual.ensures.0 c.in_err-write_bound.ensures.text

pub returns-clause-text : goal.returns-clause-text
returns-clause-text g c = Writes_after _ (g.K.Sink.held c.write_bound.new.sink) _ c.write_within.result (codes "loop " ++ address c.args.at ++ codes " " ++ bound_text c.args.bound) (within_text c.args.within.now ++ codes ";") c.in_ok-write_bound.ensures.text c.write_within.ensures.text
