use Rattle.std.proofs.Common.{length}
use Rattle.wc_report.specs.ReportText.{count_text, entry_line, lines_from}
use Rattle.wc_io.proofs.WritingLemmas.{Writes_after, part_longer}
use Rattle.wc_report.proofs.tables.write_history.Goals as goal

pub returns-in-Ok-clause-text : goal.returns-in-Ok-clause-text
returns-in-Ok-clause-text g c =
    Writes_after _ (g.K.Sink.held c.write_count.new.sink) _ c.write_entries.result (count_text (length c.args.history.now)) (lines_from entry_line 1 c.args.history.now) c.in-Ok.ensures.text c.write_entries.ensures.text

pub returns-in-Err-clause-text : goal.returns-in-Err-clause-text
returns-in-Err-clause-text g c = part_longer _ _ (count_text (length c.args.history.now)) (lines_from entry_line 1 c.args.history.now) c.in-Err.ensures.text
