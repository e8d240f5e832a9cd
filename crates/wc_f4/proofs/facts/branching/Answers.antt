use Rattle.std.proofs.Common.{[], refl, sym, ap, ◌∙◌}
use Rattle.wc_model.specs.declared.flow_facts.Fact.{Fact}
use Rattle.wc_f4.specs.declared.tokens.Word.TheVariants as keyword
use Rattle.wc_f4.specs.Places as place
use Rattle.wc_f4.specs.Places.{answer}
use Rattle.wc_f4.specs.Tokens.{word}
use Rattle.wc_f4.specs.Views.{known, left}
use Rattle.wc_f4.proofs.ParsingLemmas.{behind, by_turn, passed_on, stopped}
use Rattle.wc_f4.proofs.SameTokens.{other_this}
use Rattle.wc_f4.proofs.facts.branching.Goals as goal

pub returns-in_err-at-clause-read : goal.returns-in_err-at-clause-read
returns-in_err-at-clause-read c = λ later facts. passed_on c.from_residual.result _ _ _ _ c.from_residual.ensures.1 (c.in_err-at.ensures.read (place.branching c.args.kind) later facts)

pub returns-in_err-keyword-clause-read : goal.returns-in_err-keyword-clause-read
returns-in_err-keyword-clause-read c =
    λ later facts.
    behind c.from_residual-in_err-keyword.result _ _ _ (c.in_ok-at.ensures.read (place.branching c.args.kind) later facts)
    (stopped (known c.address.new.names) (place.behind (place.to c.args.kind c.in_ok-at.at)) (λ _. word keyword.To) c.from_residual-in_err-keyword.result c.in_err-keyword.field-0.0 (left c.address.new.reader) (left c.keyword.new.self)
    (λ t other. other_this (word keyword.To) t _ _ (λ is. other tt is)) c.from_residual-in_err-keyword.ensures.1 c.in_err-keyword.ensures later facts _)

pub returns-in_err-to-clause-read : goal.returns-in_err-to-clause-read
returns-in_err-to-clause-read c =
    λ later facts.
    let owner = place.targets c.args.kind c.in_ok-at.at in
    behind c.from_residual-in_err-to.result _ _ _
    (c.in_ok-at.ensures.read (place.branching c.args.kind) later facts
    ∙ by_turn (known c.address.new.names) later (place.behind (place.to c.args.kind c.in_ok-at.at)) facts (left c.address.new.reader) (left c.keyword.new.self) (word keyword.To) c.in_ok-keyword.ensures.0
    (place.go (place.address (place.listed owner []))) c.in_ok-keyword.ensures.1 refl)
    (passed_on c.from_residual-in_err-to.result _ _ _ _ c.from_residual-in_err-to.ensures.1 (c.in_err-to.ensures.read owner later facts))

pub returns-clause-read : goal.returns-clause-read
returns-clause-read c =
    λ later facts.
    let owner = place.targets c.args.kind c.in_ok-at.at in
    behind c.closed.result _ _ _
    (c.in_ok-at.ensures.read (place.branching c.args.kind) later facts
    ∙ by_turn (known c.address.new.names) later (place.behind (place.to c.args.kind c.in_ok-at.at)) facts (left c.address.new.reader) (left c.keyword.new.self) (word keyword.To) c.in_ok-keyword.ensures.0
    (place.go (place.address (place.listed owner []))) c.in_ok-keyword.ensures.1 refl
    ∙ c.in_ok-to.ensures.read owner later facts)
    (c.closed.ensures.read (known c.addresses.new.names) (place.whole owner c.in_ok-to.to) (λ t. ap (λ (f : Fact). place.at_closing f t) (sym c.branching_fact.ensures)) later facts)
