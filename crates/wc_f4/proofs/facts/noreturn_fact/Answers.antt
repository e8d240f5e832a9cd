use Rattle.std.proofs.Common.{refl}
use Rattle.wc_model.specs.declared.flow_facts.Fact.TheVariants.{Noreturn}
use Rattle.wc_f4.specs.Places as place
use Rattle.wc_f4.specs.Places.{answer}
use Rattle.wc_f4.specs.Views.{known}
use Rattle.wc_f4.proofs.ParsingLemmas.{behind, passed_on}
use Rattle.wc_f4.proofs.facts.noreturn_fact.Goals as goal

pub returns-in_err-at-clause-read : goal.returns-in_err-at-clause-read
returns-in_err-at-clause-read c = λ later facts. passed_on c.from_residual.result _ _ _ _ c.from_residual.ensures.1 (c.in_err-at.ensures.read place.noreturn later facts)

pub returns-clause-read : goal.returns-clause-read
returns-clause-read c =
    λ later facts.
    behind c.closed.result _ _ _ (c.in_ok-at.ensures.read place.noreturn later facts)
    (c.closed.ensures.read (known c.address.new.names) (place.behind (place.closing (Noreturn c.in_ok-at.at))) (λ t. refl) later facts)
