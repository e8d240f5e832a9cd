use Rattle.std.specs.Prelude.{codes}
use Rattle.wc_io.proofs.WritingLemmas.{Writes_after, part_longer}
use Rattle.wc_report.specs.ReportText.{hardware_words}
use Rattle.wc_report.proofs.replies.write_hardware_line.Goals as goal

pub returns-in-Ok-clause-text : goal.returns-in-Ok-clause-text
returns-in-Ok-clause-text g c =
    Writes_after _ (g.K.Sink.held c.write_timing.new.sink) _ c.write_pieces.result (hardware_words c.args.hardware.now) (codes "\n") c.in-Ok.ensures.text c.write_pieces.ensures.text

pub returns-in-Err-clause-text : goal.returns-in-Err-clause-text
returns-in-Err-clause-text g c = part_longer _ _ (hardware_words c.args.hardware.now) (codes "\n") c.in-Err.ensures.text
