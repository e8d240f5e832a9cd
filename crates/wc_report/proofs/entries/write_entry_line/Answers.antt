use Rattle.std.proofs.Common.{◌++◌}
use Rattle.std.specs.Prelude.{codes, decimal}
use Rattle.wc_report.specs.ReportText.{entry_text}
use Rattle.wc_io.proofs.WritingLemmas.{Writes_after, part_longer}
use Rattle.wc_report.proofs.entries.write_entry_line.Goals as goal

pub returns-in-Ok-clause-text : goal.returns-in-Ok-clause-text
returns-in-Ok-clause-text g c =
    Writes_after _ (g.K.Sink.held c.write_place.new.sink) _ c.write_ended_entry.result (decimal c.args.place ++ codes " ") (entry_text c.args.entry.now ++ codes "\n") c.in-Ok.ensures.text c.write_ended_entry.ensures.text

pub returns-in-Err-clause-text : goal.returns-in-Err-clause-text
returns-in-Err-clause-text g c = part_longer _ _ (decimal c.args.place ++ codes " ") (entry_text c.args.entry.now ++ codes "\n") c.in-Err.ensures.text
