use Rattle.std.proofs.Common.{refl, ◌∙◌}
use Rattle.wc_model.specs.declared.flow_facts.Term.TheVariants.{Visits}
use Rattle.wc_f4.specs.declared.tokens.Mark.TheVariants as sign
use Rattle.wc_f4.specs.Places as place
use Rattle.wc_f4.specs.Places.{answer}
use Rattle.wc_f4.specs.Tokens.{mark}
use Rattle.wc_f4.specs.Views.{known, left}
use Rattle.wc_f4.proofs.ParsingLemmas.{behind, by_turn, passed_on, stopped}
use Rattle.wc_f4.proofs.SameTokens.{other_this}
use Rattle.wc_f4.proofs.sums.visits.Goals as goal

pub returns-in_err-mark-clause-read : goal.returns-in_err-mark-clause-read
returns-in_err-mark-clause-read c =
    λ side later facts.
    stopped (known c.args.names.now) (place.opening side c.args.times) (λ _. mark sign.Open) c.from_residual.result c.in_err-mark.field-0.0 (left c.args.reader.now) (left c.mark.new.self)
    (λ t other. other_this (mark sign.Open) t _ _ (λ is. other tt is)) c.from_residual.ensures.1 c.in_err-mark.ensures later facts _

pub returns-in_err-at-clause-read : goal.returns-in_err-at-clause-read
returns-in_err-at-clause-read c =
    λ side later facts.
    behind c.from_residual-in_err-at.result _ _ _
    (by_turn (known c.args.names.now) later (place.opening side c.args.times) facts (left c.args.reader.now) (left c.mark.new.self) (mark sign.Open) c.in_ok-mark.ensures.0
    (place.go (place.address (place.visited side c.args.times))) c.in_ok-mark.ensures.1 refl)
    (passed_on c.from_residual-in_err-at.result _ _ _ _ c.from_residual-in_err-at.ensures.1 (c.in_err-at.ensures.read (place.visited side c.args.times) later facts))

pub returns-in_err-within-clause-read : goal.returns-in_err-within-clause-read
returns-in_err-within-clause-read c =
    λ side later facts.
    behind c.from_residual-in_err-within.result _ _ _
    (by_turn (known c.args.names.now) later (place.opening side c.args.times) facts (left c.args.reader.now) (left c.mark.new.self) (mark sign.Open) c.in_ok-mark.ensures.0
    (place.go (place.address (place.visited side c.args.times))) c.in_ok-mark.ensures.1 refl
    ∙ c.in_ok-at.ensures.read (place.visited side c.args.times) later facts)
    (passed_on c.from_residual-in_err-within.result _ _ _ _ c.from_residual-in_err-within.ensures.1 (c.in_err-within.ensures.read (place.counted side c.args.times c.in_ok-at.at) later facts))

pub returns-in_err-mark-2-clause-read : goal.returns-in_err-mark-2-clause-read
returns-in_err-mark-2-clause-read c =
    λ side later facts.
    let list = place.whole (place.counted side c.args.times c.in_ok-at.at) c.in_ok-within.within in
    behind c.from_residual-in_err-mark-2.result _ _ _
    (by_turn (known c.args.names.now) later (place.opening side c.args.times) facts (left c.args.reader.now) (left c.mark.new.self) (mark sign.Open) c.in_ok-mark.ensures.0
    (place.go (place.address (place.visited side c.args.times))) c.in_ok-mark.ensures.1 refl
    ∙ c.in_ok-at.ensures.read (place.visited side c.args.times) later facts
    ∙ c.in_ok-within.ensures.read (place.counted side c.args.times c.in_ok-at.at) later facts)
    (stopped (known c.within.new.names) list (λ _. mark sign.Close) c.from_residual-in_err-mark-2.result c.in_err-mark-2.field-0.0 (left c.within.new.reader) (left c.mark-2.new.self)
    (λ t other. other_this (mark sign.Close) t _ _ (λ is. other tt is)) c.from_residual-in_err-mark-2.ensures.1 c.in_err-mark-2.ensures later facts _)

pub returns-clause-read : goal.returns-clause-read
returns-clause-read c =
    λ side later facts.
    let list = place.whole (place.counted side c.args.times c.in_ok-at.at) c.in_ok-within.within in
    by_turn (known c.args.names.now) later (place.opening side c.args.times) facts (left c.args.reader.now) (left c.mark.new.self) (mark sign.Open) c.in_ok-mark.ensures.0
    (place.go (place.address (place.visited side c.args.times))) c.in_ok-mark.ensures.1 refl
    ∙ c.in_ok-at.ensures.read (place.visited side c.args.times) later facts
    ∙ c.in_ok-within.ensures.read (place.counted side c.args.times c.in_ok-at.at) later facts
    ∙ by_turn (known c.within.new.names) later list facts (left c.within.new.reader) (left c.mark-2.new.self) (mark sign.Close) c.in_ok-mark-2.ensures.0
    (place.go (place.after_term (place.with_term side (Visits c.args.times c.in_ok-at.at c.in_ok-within.within)))) c.in_ok-mark-2.ensures.1 refl
