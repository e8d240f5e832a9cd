use Rattle.std.proofs.Common.{ℕ, Err, sym, ap, ◌∙◌}
use Rattle.wc_f4.specs.declared.stops.Stop.TheVariants.{Unknown}
use Rattle.wc_f4.specs.Grammar.{Names}
use Rattle.wc_f4.specs.Places as place
use Rattle.wc_f4.specs.Places.{answer}
use Rattle.wc_f4.specs.Reading.{names_of}
use Rattle.wc_f4.specs.Tokens.{quoted}
use Rattle.wc_f4.specs.Views.{known, left}
use Rattle.wc_f4.proofs.ParsingLemmas.{behind, by_turn, no_quoted, one_place, stopped}
use Rattle.wc_f4.proofs.addresses.named.Goals as goal

pub returns-in_err-name-clause-read : goal.returns-in_err-name-clause-read
returns-in_err-name-clause-read c =
    λ part later facts.
    stopped (known c.args.names.now) (place.label part) quoted c.from_residual.result c.in_err-name.field-0.0 (left c.args.reader.now) (left c.quoted.new.self) (λ t other. no_quoted t _ other)
    c.from_residual.ensures.1 c.in_err-name.ensures later facts _

pub returns-in-Some-clause-read : goal.returns-in-Some-clause-read
returns-in-Some-clause-read c =
    λ part later facts.
    behind c.moved.result _ _ _
    (by_turn (known c.args.names.now) later (place.label part) facts (left c.args.reader.now) (left c.quoted.new.self) (quoted c.in_ok-name.name.now) c.in_ok-name.ensures.0
    (place.go (place.moved part c.in-Some.base)) c.in_ok-name.ensures.1 (ap (place.named part) (sym c.in_ok-base.ensures.found ∙ c.in-Some.is))
    ∙ ap (λ (names : Names). answer names later (place.moved part c.in-Some.base) facts (left c.quoted.new.self)) (ap names_of (sym c.in_ok-base.ensures.same)))
    (c.moved.ensures.read (known c.find.new.self) part later facts)

pub returns-in-None-clause-read : goal.returns-in-None-clause-read
returns-in-None-clause-read c =
    λ part later facts.
    by_turn (known c.args.names.now) later (place.label part) facts (left c.args.reader.now) (left c.quoted.new.self) (quoted c.in_ok-name.name.now) c.in_ok-name.ensures.0
    place.unknown c.in_ok-name.ensures.1 (ap (place.named part) (sym c.in_ok-base.ensures.found ∙ c.in-None.is))
    ∙ ap (λ (p : ℕ). Err (Unknown p)) (one_place (left c.args.reader.now) _ _ _ _ _ _ c.in_ok-name.ensures.1 c.place-place.ensures.1.1)
