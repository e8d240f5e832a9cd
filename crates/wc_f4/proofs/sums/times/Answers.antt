use Rattle.std.proofs.Common.{refl}
use Rattle.wc_model.specs.declared.flow_facts.Term.TheVariants.{Constant}
use Rattle.wc_f4.specs.declared.tokens.Mark.TheVariants as sign
use Rattle.wc_f4.specs.Places as place
use Rattle.wc_f4.specs.Places.{answer}
use Rattle.wc_f4.specs.Tokens.{mark}
use Rattle.wc_f4.specs.Views.{known, left}
use Rattle.wc_f4.proofs.ParsingLemmas.{behind, this_absent, this_read}
use Rattle.wc_f4.proofs.SameTokens.{other_this}
use Rattle.wc_f4.proofs.sums.times.Goals as goal

pub returns-then-has_mark-clause-read : goal.returns-then-has_mark-clause-read
returns-then-has_mark-clause-read c =
    λ side later facts.
    behind c.visits.result _ _ _
    (this_read (known c.args.names.now) later (place.times side c.args.number) facts (mark sign.Star) (place.opening side c.args.number) (left c.args.reader.now) (left c.has_mark.new.self) refl c.if-has_mark.ensures)
    (c.visits.ensures.read side later facts)

pub returns-else-has_mark-clause-read : goal.returns-else-has_mark-clause-read
returns-else-has_mark-clause-read c =
    λ side later facts.
    this_absent (known c.args.names.now) later (place.times side c.args.number) (place.after_term (place.with_term side (Constant c.args.number))) facts (mark sign.Star) (left c.args.reader.now) (left c.has_mark.new.self)
    (λ t other. other_this (mark sign.Star) t _ _ other) c.if-has_mark.ensures
