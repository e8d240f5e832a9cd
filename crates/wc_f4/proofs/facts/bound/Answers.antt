use Rattle.std.proofs.Common.{None, Some, refl, sym, ap, ◌∙◌}
use Rattle.wc_f4.specs.declared.tokens.Mark.TheVariants as sign
use Rattle.wc_f4.specs.Places as place
use Rattle.wc_f4.specs.Places.{answer}
use Rattle.wc_f4.specs.Tokens.{mark, number}
use Rattle.wc_f4.specs.Views.{left}
use Rattle.wc_f4.proofs.ParsingLemmas.{by_turn, no_bound, this_read}
use Rattle.wc_f4.proofs.facts.bound.Goals as goal

pub returns-then-has_mark-clause-read : goal.returns-then-has_mark-clause-read
returns-then-has_mark-clause-read c =
    λ names at later facts.
    this_read names later (place.behind (place.bound at)) facts (mark sign.Question) (place.behind (place.within (place.bounded at None))) (left c.args.reader.now) (left c.has_mark.new.self) refl c.if-has_mark.ensures

pub returns-in_err-number-clause-read : goal.returns-in_err-number-clause-read
returns-in_err-number-clause-read c =
    λ names at later facts.
    no_bound names later at facts c.from_residual.result c.in_err-number.field-0.0 (left c.args.reader.now) (left c.has_mark.new.self) (left c.number.new.self) c.if-has_mark.ensures
    c.from_residual.ensures.1 c.in_err-number.ensures _

pub returns-clause-read : goal.returns-clause-read
returns-clause-read c =
    λ names at later facts.
    ap (answer names later (place.behind (place.bound at)) facts) (sym c.if-has_mark.ensures.0)
    ∙ by_turn names later (place.behind (place.bound at)) facts (left c.has_mark.new.self) (left c.number.new.self) (number c.in_ok-number.field-0) c.in_ok-number.ensures.0
    (place.go (place.behind (place.within (place.bounded at (Some c.in_ok-number.field-0))))) c.in_ok-number.ensures.1 refl
