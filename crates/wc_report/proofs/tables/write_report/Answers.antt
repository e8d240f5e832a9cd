use Rattle.wc_report.specs.ReportText.{history_text, tables_text}
use Rattle.wc_io.proofs.WritingLemmas.{Writes_after, part_longer}
use Rattle.wc_report.proofs.tables.write_report.Goals as goal

pub returns-in-Ok-clause-text : goal.returns-in-Ok-clause-text
returns-in-Ok-clause-text g c =
    Writes_after _ (g.K.Sink.held c.write_history.new.sink) _ c.write_tables.result (history_text c.args.history.now) (tables_text c.args.runs.now c.args.ends.now) c.in-Ok.ensures.text c.write_tables.ensures.text

pub returns-in-Err-clause-text : goal.returns-in-Err-clause-text
returns-in-Err-clause-text g c = part_longer _ _ (history_text c.args.history.now) (tables_text c.args.runs.now c.args.ends.now) c.in-Err.ensures.text
