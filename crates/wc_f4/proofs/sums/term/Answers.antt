use Rattle.std.proofs.Common.{refl}
use Rattle.wc_f4.specs.Places as place
use Rattle.wc_f4.specs.Places.{answer}
use Rattle.wc_f4.specs.Tokens.{number}
use Rattle.wc_f4.specs.Views.{known, left}
use Rattle.wc_f4.proofs.ParsingLemmas.{any_absent, any_read, behind, other_number}
use Rattle.wc_f4.proofs.sums.term.Goals as goal

pub returns-in-Some-clause-read : goal.returns-in-Some-clause-read
returns-in-Some-clause-read c =
    λ side later facts.
    behind c.times.result _ _ _
    (any_read (known c.args.names.now) later (place.term side) facts number c.in-Some.number (place.times side c.in-Some.number) (left c.args.reader.now) (left c.any_number.new.self) refl c.in-Some.ensures)
    (c.times.ensures.read side later facts)

pub returns-in-None-clause-read : goal.returns-in-None-clause-read
returns-in-None-clause-read c =
    λ side later facts.
    behind c.visits.result _ _ _
    (any_absent (known c.args.names.now) later (place.term side) (place.opening side 1) facts number (left c.args.reader.now) (left c.any_number.new.self) (λ t other. other_number t _ _ other) c.in-None.ensures)
    (c.visits.ensures.read side later facts)
