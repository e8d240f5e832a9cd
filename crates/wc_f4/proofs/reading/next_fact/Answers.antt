use Rattle.std.proofs.Common.{List, sym, ap, ◌∙◌}
use Rattle.wc_model.specs.declared.flow_facts.Fact.{Fact}
use Rattle.wc_f4.specs.Places as place
use Rattle.wc_f4.specs.Places.{answer}
use Rattle.wc_f4.specs.Views.{known, left}
use Rattle.wc_f4.proofs.ParsingLemmas.{alike_here, behind, passed_on}
use Rattle.wc_f4.proofs.reading.next_fact.Goals as goal

pub returns-in_err-fact-clause-read : goal.returns-in_err-fact-clause-read
returns-in_err-fact-clause-read c =
    behind c.from_residual.result _ _ _ (alike_here (known c.args.names.now) place.start c.args.facts.now.items (left c.args.reader.now) c.requires)
    (passed_on c.from_residual.result _ _ _ _ c.from_residual.ensures.1 (c.in_err-fact.ensures.read place.start c.args.facts.now.items))

pub returns-clause-read : goal.returns-clause-read
returns-clause-read c =
    alike_here (known c.args.names.now) place.start c.args.facts.now.items (left c.args.reader.now) c.requires
    ∙ c.in_ok-fact.ensures.read place.start c.args.facts.now.items
    ∙ ap (λ (all : List Fact). answer (known c.fact.new.names) place.start place.start all (left c.fact.new.reader)) (sym c.in_ok-push.ensures.items)
