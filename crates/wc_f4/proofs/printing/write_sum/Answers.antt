use Rattle.std.proofs.Common.{List, sym, subst}
use Rattle.std.specs.Prelude.{codes}
use Rattle.wc_io.specs.Writing.{Writes}
use Rattle.wc_io.proofs.WritingLemmas.{Writes_after}
use Rattle.wc_model.specs.declared.flow_facts.Term.{Term}
use Rattle.wc_f4.specs.FactText.{separated, sum_text, term_text}
use Rattle.wc_f4.proofs.PrintingLemmas.{Writes_stopped}
use Rattle.wc_f4.proofs.printing.write_sum.Goals as goal

pub returns-in_err-write_term-clause-text : goal.returns-in_err-write_term-clause-text
returns-in_err-write_term-clause-text g c =
    subst (λ (xs : List Term). Writes (g.K.Sink.held c.args.sink.now) (g.K.Sink.held c.write_term.new.sink) c.from_residual.result (sum_text xs)) (sym c.in-Some.ensures.cases.0)
    (Writes_stopped _ _ c.from_residual.result (term_text c.in-Some.first.now) (separated (codes " + ") term_text c.in-Some.more.now) c.from_residual.ensures.0 c.in_err-write_term.ensures.text)

pub returns-clause-text : goal.returns-clause-text
returns-clause-text g c =
    subst (λ (xs : List Term). Writes (g.K.Sink.held c.args.sink.now) (g.K.Sink.held c.write_more_terms.new.sink) c.write_more_terms.result (sum_text xs)) (sym c.in-Some.ensures.cases.0)
    (Writes_after _ (g.K.Sink.held c.write_term.new.sink) _ c.write_more_terms.result (term_text c.in-Some.first.now) (separated (codes " + ") term_text c.in-Some.more.now) c.in_ok-write_term.ensures.text c.write_more_terms.ensures.text)
