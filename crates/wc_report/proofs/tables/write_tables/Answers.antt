use Rattle.wc_report.specs.ReportText.{lines_from, run_line, session_line}
use Rattle.wc_io.proofs.WritingLemmas.{Writes_after, part_longer}
use Rattle.wc_report.proofs.tables.write_tables.Goals as goal

pub returns-in-Ok-clause-text : goal.returns-in-Ok-clause-text
returns-in-Ok-clause-text g c =
    Writes_after _ (g.K.Sink.held c.write_runs.new.sink) _ c.write_sessions.result (lines_from run_line 1 c.args.runs.now) (lines_from session_line 1 c.args.ends.now) c.in-Ok.ensures.text c.write_sessions.ensures.text

pub returns-in-Err-clause-text : goal.returns-in-Err-clause-text
returns-in-Err-clause-text g c = part_longer _ _ (lines_from run_line 1 c.args.runs.now) (lines_from session_line 1 c.args.ends.now) c.in-Err.ensures.text
