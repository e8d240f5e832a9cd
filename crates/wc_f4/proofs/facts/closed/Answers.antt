use Rattle.std.proofs.Common.{◌∙◌}
use Rattle.wc_f4.specs.declared.tokens.Mark.TheVariants as sign
use Rattle.wc_f4.specs.Places as place
use Rattle.wc_f4.specs.Places.{answer}
use Rattle.wc_f4.specs.Tokens.{mark}
use Rattle.wc_f4.specs.Views.{left}
use Rattle.wc_f4.proofs.ParsingLemmas.{by_turn, stopped}
use Rattle.wc_f4.proofs.SameTokens.{other_this}
use Rattle.wc_f4.proofs.facts.closed.Goals as goal

pub returns-in_err-mark-clause-read : goal.returns-in_err-mark-clause-read
returns-in_err-mark-clause-read c =
    λ names here ends later facts.
    stopped names here (λ _. mark sign.Semicolon) c.from_residual.result c.in_err-mark.field-0.0 (left c.args.reader.now) (left c.mark.new.self)
    (λ t other. ends t ∙ other_this (mark sign.Semicolon) t _ _ (λ is. other tt is)) c.from_residual.ensures.1 c.in_err-mark.ensures later facts _

pub returns-clause-read : goal.returns-clause-read
returns-clause-read c =
    λ names here ends later facts.
    by_turn names later here facts (left c.args.reader.now) (left c.mark.new.self) (mark sign.Semicolon) c.in_ok-mark.ensures.0 (place.states c.args.fact) c.in_ok-mark.ensures.1 (ends (mark sign.Semicolon))
