use Rattle.wc_report.specs.ReportText.{edit_front, edit_text}
use Rattle.wc_io.proofs.WritingLemmas.{Writes_after, part_longer}
use Rattle.wc_report.proofs.edits.write_edit_entry.Goals as goal

pub returns-in-Ok-clause-text : goal.returns-in-Ok-clause-text
returns-in-Ok-clause-text g c =
    Writes_after _ (g.K.Sink.held c.write_edit_front.new.sink) _ c.write_edit.result (edit_front c.args.by c.args.count) (edit_text c.args.edit.now) c.in-Ok.ensures.text c.write_edit.ensures.text

pub returns-in-Err-clause-text : goal.returns-in-Err-clause-text
returns-in-Err-clause-text g c = part_longer _ _ (edit_front c.args.by c.args.count) (edit_text c.args.edit.now) c.in-Err.ensures.text
