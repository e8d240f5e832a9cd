use Rattle.wc_report.specs.ReportText.{answer_front, outcome_words}
use Rattle.wc_io.proofs.WritingLemmas.{Writes_after, part_longer}
use Rattle.wc_report.proofs.answers.write_answer_entry.Goals as goal

pub returns-in-Ok-clause-text : goal.returns-in-Ok-clause-text
returns-in-Ok-clause-text g c =
    Writes_after _ (g.K.Sink.held c.write_answer_front.new.sink) _ c.write_outcome.result (answer_front c.args.by c.args.name.now c.args.at) (outcome_words c.args.outcome) c.in-Ok.ensures.text c.write_outcome.ensures.text

pub returns-in-Err-clause-text : goal.returns-in-Err-clause-text
returns-in-Err-clause-text g c = part_longer _ _ (answer_front c.args.by c.args.name.now c.args.at) (outcome_words c.args.outcome) c.in-Err.ensures.text
