use Rattle.std.proofs.Common.{◌++◌}
use Rattle.std.specs.Prelude.{codes}
use Rattle.wc_f4.specs.FactText.{sum_text}
use Rattle.wc_io.proofs.WritingLemmas.{Writes_after}
use Rattle.wc_f4.proofs.PrintingLemmas.{Writes_stopped}
use Rattle.wc_f4.proofs.printing.write_limit.Goals as goal

pub returns-in_err-write_left-clause-text : goal.returns-in_err-write_left-clause-text
returns-in_err-write_left-clause-text g c = Writes_stopped _ _ c.from_residual.result (codes "limit " ++ sum_text c.args.left.now) ((codes " <= " ++ sum_text c.args.right.now) ++ codes ";") c.from_residual.ensures.0 c.in_err-write_left.ensures.text

pub returns-clause-text : goal.returns-clause-text
returns-clause-text g c = Writes_after _ (g.K.Sink.held c.write_left.new.sink) _ c.write_last_side.result (codes "limit " ++ sum_text c.args.left.now) ((codes " <= " ++ sum_text c.args.right.now) ++ codes ";") c.in_ok-write_left.ensures.text c.write_last_side.ensures.text
