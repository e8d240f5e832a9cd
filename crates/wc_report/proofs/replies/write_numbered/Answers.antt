use Rattle.std.specs.Prelude.{◌++◌, decimal, codes}
use Rattle.wc_f4.specs.FactText.{fact_text}
use Rattle.wc_report.proofs.TextLemmas.{all_three, part_of_two}
use Rattle.wc_report.proofs.replies.write_numbered.Goals as goal

pub returns-in-Ok-write_fact-clause-text : goal.returns-in-Ok-write_fact-clause-text
returns-in-Ok-write_fact-clause-text g c =
    all_three _ (g.K.Sink.held c.write_pieces.new.sink) (g.K.Sink.held c.write_fact.new.sink) (decimal c.args.numbered.now.0 ++ codes " ") (fact_text c.args.numbered.now.1) (codes "\n") c.in-Ok.ensures.text _ _ c.in-Ok-write_fact.ensures.text c.write_pieces-in-Ok-write_fact.ensures.text

pub returns-in-Err-write_fact-clause-text : goal.returns-in-Err-write_fact-clause-text
returns-in-Err-write_fact-clause-text g c =
    part_of_two _ (g.K.Sink.held c.write_pieces.new.sink) _ (decimal c.args.numbered.now.0 ++ codes " ") (fact_text c.args.numbered.now.1) (codes "\n") c.in-Ok.ensures.text c.in-Err-write_fact.ensures.text
