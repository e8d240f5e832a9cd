use Rattle.std.proofs.Common.{refl, ◌∙◌}
use Rattle.wc_f4.specs.Places as place
use Rattle.wc_f4.specs.Places.{answer}
use Rattle.wc_f4.specs.Views.{known}
use Rattle.wc_f4.proofs.ParsingLemmas.{behind, passed_on}
use Rattle.wc_f4.proofs.facts.loop_fact.Goals as goal

pub returns-in_err-at-clause-read : goal.returns-in_err-at-clause-read
returns-in_err-at-clause-read c = λ later facts. passed_on c.from_residual.result _ _ _ _ c.from_residual.ensures.1 (c.in_err-at.ensures.read place.looped later facts)

pub returns-in_err-bound-clause-read : goal.returns-in_err-bound-clause-read
returns-in_err-bound-clause-read c =
    λ later facts.
    behind c.from_residual-in_err-bound.result _ _ _ (c.in_ok-at.ensures.read place.looped later facts)
    (passed_on c.from_residual-in_err-bound.result _ _ _ _ c.from_residual-in_err-bound.ensures.1 (c.in_err-bound.ensures.read (known c.address.new.names) c.in_ok-at.at later facts))

pub returns-in_err-within-clause-read : goal.returns-in_err-within-clause-read
returns-in_err-within-clause-read c =
    λ later facts.
    behind c.from_residual-in_err-within.result _ _ _
    (c.in_ok-at.ensures.read place.looped later facts ∙ c.in_ok-bound.ensures.read (known c.address.new.names) c.in_ok-at.at later facts)
    (passed_on c.from_residual-in_err-within.result _ _ _ _ c.from_residual-in_err-within.ensures.1 (c.in_err-within.ensures.read (place.bounded c.in_ok-at.at c.in_ok-bound.bound) later facts))

pub returns-clause-read : goal.returns-clause-read
returns-clause-read c =
    λ later facts.
    let owner = place.bounded c.in_ok-at.at c.in_ok-bound.bound in
    behind c.closed.result _ _ _
    (c.in_ok-at.ensures.read place.looped later facts ∙ c.in_ok-bound.ensures.read (known c.address.new.names) c.in_ok-at.at later facts ∙ c.in_ok-within.ensures.read owner later facts)
    (c.closed.ensures.read (known c.within.new.names) (place.whole owner c.in_ok-within.within) (λ t. refl) later facts)
