use Rattle.std.proofs.Common.{◌++◌}
use Rattle.std.specs.Prelude.{codes}
use Rattle.wc_io.proofs.WritingLemmas.{Writes_after, part_longer}
use Rattle.wc_report.specs.ReportText.{end_word, finish_front}
use Rattle.wc_report.proofs.runs.write_finish.Goals as goal

pub returns-in-Ok-clause-text : goal.returns-in-Ok-clause-text
returns-in-Ok-clause-text g c =
    Writes_after _ (g.K.Sink.held c.write_finish_front.new.sink) _ c.write_end.result (finish_front c.args.by c.args.kind c.args.name.now c.args.stamp) (codes " " ++ end_word c.args.end) c.in-Ok.ensures.text c.write_end.ensures.text

pub returns-in-Err-clause-text : goal.returns-in-Err-clause-text
returns-in-Err-clause-text g c = part_longer _ _ (finish_front c.args.by c.args.kind c.args.name.now c.args.stamp) (codes " " ++ end_word c.args.end) c.in-Err.ensures.text
