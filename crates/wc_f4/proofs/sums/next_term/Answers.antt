use Rattle.std.proofs.Common.{sym, ap, ◌∙◌}
use Rattle.wc_f4.specs.Places as place
use Rattle.wc_f4.specs.Places.{answer}
use Rattle.wc_f4.specs.Views.{known, left}
use Rattle.wc_f4.proofs.ParsingLemmas.{after_sum, one_more, passed_on}
use Rattle.wc_f4.proofs.sums.next_term.Goals as goal

pub returns-in_err-term-clause-read : goal.returns-in_err-term-clause-read
returns-in_err-term-clause-read c =
    λ side later facts. passed_on c.from_residual.result _ _ _ _ c.from_residual.ensures.1 (c.in_err-term.ensures.read (place.with_terms side c.args.terms.now.items) later facts)

pub returns-clause-read : goal.returns-clause-read
returns-clause-read c =
    λ side later facts.
    c.in_ok-term.ensures.read (place.with_terms side c.args.terms.now.items) later facts
    ∙ ap (λ (s : place.Side). answer (known c.term.new.names) later (place.after_term s) facts (left c.term.new.reader))
    (one_more side c.args.terms.now.items c.in_ok-term.term ∙ ap (place.with_terms side) (sym c.in_ok-push.ensures.items))
    ∙ after_sum (known c.term.new.names) later facts side c.push.new.self.items c.has_mark.result (left c.term.new.reader) (left c.has_mark.new.self) c.has_mark.ensures
