use Rattle.std.proofs.Common.{◌++◌}
use Rattle.std.specs.Prelude.{codes}
use Rattle.wc_f4.specs.FactText.{sum_text}
use Rattle.wc_io.proofs.WritingLemmas.{Writes_after}
use Rattle.wc_f4.proofs.PrintingLemmas.{Writes_stopped}
use Rattle.wc_f4.proofs.printing.write_last_side.Goals as goal

pub returns-in_err-write_right-clause-text : goal.returns-in_err-write_right-clause-text
returns-in_err-write_right-clause-text g c = Writes_stopped _ _ c.from_residual.result (codes " <= " ++ sum_text c.args.terms.now) (codes ";") c.from_residual.ensures.0 c.in_err-write_right.ensures.text

pub returns-clause-text : goal.returns-clause-text
returns-clause-text g c = Writes_after _ (g.K.Sink.held c.write_right.new.sink) _ c.write_whole.result (codes " <= " ++ sum_text c.args.terms.now) (codes ";") c.in_ok-write_right.ensures.text c.write_whole.ensures.text
