use Rattle.std.proofs.Common.{◌++◌}
use Rattle.std.specs.Prelude.{codes}
use Rattle.wc_f4.specs.FactText.{term_text}
use Rattle.wc_f4.proofs.PrintingLemmas.{Writes_item}
use Rattle.wc_f4.proofs.printing.write_more_terms.Goals as goal

pub returns-in_err-write_next_term-clause-text : goal.returns-in_err-write_next_term-clause-text
returns-in_err-write_next_term-clause-text g c =
    Writes_item _ (g.K.Sink.held c.loop-term.sink) _ c.from_residual.result (λ x. codes " + " ++ term_text x) c.args.terms.now c.loop-term.term-index c.term-item.result c.term-item.result
    c.from_residual.ensures.0 c.loop-term-test.true c.term-item.is c.loop-term.invariant.written c.in_err-write_next_term.ensures.text
