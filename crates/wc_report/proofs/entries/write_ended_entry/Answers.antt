use Rattle.std.specs.Prelude.{codes}
use Rattle.wc_report.specs.ReportText.{entry_text}
use Rattle.wc_io.proofs.WritingLemmas.{Writes_after, part_longer}
use Rattle.wc_report.proofs.entries.write_ended_entry.Goals as goal

pub returns-in-Ok-clause-text : goal.returns-in-Ok-clause-text
returns-in-Ok-clause-text g c =
    Writes_after _ (g.K.Sink.held c.write_entry.new.sink) _ c.write_whole.result (entry_text c.args.entry.now) (codes "\n") c.in-Ok.ensures.text c.write_whole.ensures.text

pub returns-in-Err-clause-text : goal.returns-in-Err-clause-text
returns-in-Err-clause-text g c = part_longer _ _ (entry_text c.args.entry.now) (codes "\n") c.in-Err.ensures.text
