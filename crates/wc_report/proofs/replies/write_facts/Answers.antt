use Rattle.std.specs.Prelude.{ℕ}
use Rattle.std.proofs.Common.{subst}
use Rattle.wc_model.specs.declared.flow_facts.Fact.{Fact}
use Rattle.wc_io.specs.Writing.{AppendsPart}
use Rattle.wc_io.proofs.WritingLemmas.{part_of_pieces}
use Rattle.wc_report.specs.ReplyText.{numbered_text}
use Rattle.wc_report.proofs.replies.write_facts.Goals as goal

pub returns-in-Err-clause-text : goal.returns-in-Err-clause-text
returns-in-Err-clause-text g c =
    part_of_pieces _ (g.K.Sink.held c.loop-fact.sink) _ numbered_text c.args.facts.now c.loop-fact.fact-index c.fact-item.result c.loop-fact-test.true c.loop-fact.invariant.written
    (subst (λ (f : ℕ × Fact). AppendsPart (g.K.Sink.held c.loop-fact.sink) (g.K.Sink.held c.write_numbered.new.sink) (numbered_text f)) c.fact-item.is c.in-Err.ensures.text)
