use Rattle.std.proofs.Common.{ℕ, Err, sym, ap, ◌∙◌, arith}
use Rattle.wc_f4.specs.declared.stops.Stop.TheVariants.{Bad}
use Rattle.wc_f4.specs.Places as place
use Rattle.wc_f4.specs.Places.{answer}
use Rattle.wc_f4.specs.Tokens.{number}
use Rattle.wc_f4.specs.Views.{left}
use Rattle.wc_f4.proofs.ParsingLemmas.{beyond, by_turn, no_number, one_place, stopped, within}
use Rattle.wc_f4.proofs.addresses.above.Goals as goal

pub returns-in_err-distance-clause-read : goal.returns-in_err-distance-clause-read
returns-in_err-distance-clause-read c =
    λ names part later facts.
    stopped names (place.above part c.args.base) number c.from_residual.result c.in_err-distance.field-0.0 (left c.args.reader.now) (left c.number.new.self) (λ t other. no_number t _ other)
    c.from_residual.ensures.1 c.in_err-distance.ensures later facts _

pub returns-in-Some-clause-read : goal.returns-in-Some-clause-read
returns-in-Some-clause-read c =
    λ names part later facts.
    by_turn names later (place.above part c.args.base) facts (left c.args.reader.now) (left c.number.new.self) (number c.in_ok-distance.distance) c.in_ok-distance.ensures.0
    (place.lands part c.in-Some.at) c.in_ok-distance.ensures.1
    (within part c.args.base c.in_ok-distance.distance c.in-Some.ensures.0 ∙ ap (place.lands part) (sym c.in-Some.ensures.1))

pub returns-in-None-clause-read : goal.returns-in-None-clause-read
returns-in-None-clause-read c =
    λ names part later facts.
    by_turn names later (place.above part c.args.base) facts (left c.args.reader.now) (left c.number.new.self) (number c.in_ok-distance.distance) c.in_ok-distance.ensures.0
    place.refused c.in_ok-distance.ensures.1 (beyond part c.args.base c.in_ok-distance.distance (omega (arith, c.in-None.ensures)))
    ∙ ap (λ (p : ℕ). Err (Bad p)) (one_place (left c.args.reader.now) _ _ _ _ _ _ c.in_ok-distance.ensures.1 c.place-place.ensures.1.1)
