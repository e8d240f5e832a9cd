use Rattle.std.specs.Prelude.{codes}
use Rattle.wc_f4.specs.FactText.{fact_text}
use Rattle.wc_io.proofs.WritingLemmas.{Writes_after, part_longer}
use Rattle.wc_report.proofs.edits.write_added.Goals as goal

pub returns-in-Ok-clause-text : goal.returns-in-Ok-clause-text
returns-in-Ok-clause-text g c =
    Writes_after _ (g.K.Sink.held c.write_whole.new.sink) _ c.write_fact.result (codes "add ") (fact_text c.args.fact.now) c.in-Ok.ensures.text c.write_fact.ensures.text

pub returns-in-Err-clause-text : goal.returns-in-Err-clause-text
returns-in-Err-clause-text g c = part_longer _ _ (codes "add ") (fact_text c.args.fact.now) c.in-Err.ensures.text
