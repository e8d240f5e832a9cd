use Rattle.std.proofs.Common.{[], refl, ◌∙◌}
use Rattle.wc_f4.specs.declared.tokens.Mark.TheVariants as sign
use Rattle.wc_f4.specs.Places as place
use Rattle.wc_f4.specs.Places.{answer}
use Rattle.wc_f4.specs.Tokens.{mark}
use Rattle.wc_f4.specs.Views.{known, left}
use Rattle.wc_f4.proofs.ParsingLemmas.{behind, by_turn, passed_on, stopped}
use Rattle.wc_f4.proofs.SameTokens.{other_this}
use Rattle.wc_f4.proofs.facts.limit.Goals as goal

pub returns-in_err-left-clause-read : goal.returns-in_err-left-clause-read
returns-in_err-left-clause-read c = λ later facts. passed_on c.from_residual.result _ _ _ _ c.from_residual.ensures.1 (c.in_err-left.ensures.read (place.left []) later facts)

pub returns-in_err-mark-clause-read : goal.returns-in_err-mark-clause-read
returns-in_err-mark-clause-read c =
    λ later facts.
    behind c.from_residual-in_err-mark.result _ _ _ (c.in_ok-left.ensures.read (place.left []) later facts)
    (stopped (known c.sum.new.names) (place.ended (place.left c.in_ok-left.left)) (λ _. mark sign.AtMost) c.from_residual-in_err-mark.result c.in_err-mark.field-0.0 (left c.sum.new.reader) (left c.mark.new.self)
    (λ t other. other_this (mark sign.AtMost) t _ _ (λ is. other tt is)) c.from_residual-in_err-mark.ensures.1 c.in_err-mark.ensures later facts _)

pub returns-in_err-right-clause-read : goal.returns-in_err-right-clause-read
returns-in_err-right-clause-read c =
    λ later facts.
    behind c.from_residual-in_err-right.result _ _ _
    (c.in_ok-left.ensures.read (place.left []) later facts
    ∙ by_turn (known c.sum.new.names) later (place.ended (place.left c.in_ok-left.left)) facts (left c.sum.new.reader) (left c.mark.new.self) (mark sign.AtMost) c.in_ok-mark.ensures.0
    (place.go (place.term (place.right c.in_ok-left.left []))) c.in_ok-mark.ensures.1 refl)
    (passed_on c.from_residual-in_err-right.result _ _ _ _ c.from_residual-in_err-right.ensures.1 (c.in_err-right.ensures.read (place.right c.in_ok-left.left []) later facts))

pub returns-clause-read : goal.returns-clause-read
returns-clause-read c =
    λ later facts.
    behind c.closed.result _ _ _
    (c.in_ok-left.ensures.read (place.left []) later facts
    ∙ by_turn (known c.sum.new.names) later (place.ended (place.left c.in_ok-left.left)) facts (left c.sum.new.reader) (left c.mark.new.self) (mark sign.AtMost) c.in_ok-mark.ensures.0
    (place.go (place.term (place.right c.in_ok-left.left []))) c.in_ok-mark.ensures.1 refl
    ∙ c.in_ok-right.ensures.read (place.right c.in_ok-left.left []) later facts)
    (c.closed.ensures.read (known c.sum-2.new.names) (place.ended (place.right c.in_ok-left.left c.in_ok-right.right)) (λ t. refl) later facts)
