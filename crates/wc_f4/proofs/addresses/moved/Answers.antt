use Rattle.std.proofs.Common.{refl, sym, ap, ◌∙◌}
use Rattle.wc_f4.specs.declared.tokens.Mark.TheVariants as sign
use Rattle.wc_f4.specs.Places as place
use Rattle.wc_f4.specs.Places.{answer}
use Rattle.wc_f4.specs.Tokens.{mark}
use Rattle.wc_f4.specs.Views.{left}
use Rattle.wc_f4.proofs.ParsingLemmas.{behind, this_read, stays}
use Rattle.wc_f4.proofs.addresses.moved.Goals as goal

pub returns-then-has_mark-clause-read : goal.returns-then-has_mark-clause-read
returns-then-has_mark-clause-read c =
    λ names part later facts.
    behind c.above.result _ _ _
    (this_read names later (place.moved part c.args.base) facts (mark sign.Plus) (place.above part c.args.base) (left c.args.reader.now) (left c.has_mark.new.self) refl c.if-has_mark.ensures)
    (c.above.ensures.read names part later facts)

pub returns-then-has_mark-2-clause-read : goal.returns-then-has_mark-2-clause-read
returns-then-has_mark-2-clause-read c =
    λ names part later facts.
    behind c.below.result _ _ _
    (ap (answer names later (place.moved part c.args.base) facts) (sym c.if-has_mark.ensures.0)
    ∙ this_read names later (place.moved part c.args.base) facts (mark sign.Minus) (place.below part c.args.base) (left c.has_mark.new.self) (left c.has_mark-else-has_mark.new.self) refl c.if-has_mark-2.ensures)
    (c.below.ensures.read names part later facts)

pub returns-else-has_mark-2-clause-read : goal.returns-else-has_mark-2-clause-read
returns-else-has_mark-2-clause-read c =
    λ names part later facts.
    stays names later part c.args.base facts (left c.args.reader.now) (left c.has_mark.new.self) (left c.has_mark-else-has_mark.new.self) c.if-has_mark.ensures c.if-has_mark-2.ensures
