use Rattle.std.proofs.Common.{refl}
use Rattle.wc_f4.specs.Places as place
use Rattle.wc_f4.specs.Places.{answer}
use Rattle.wc_f4.specs.Tokens.{number}
use Rattle.wc_f4.specs.Views.{known, left}
use Rattle.wc_f4.proofs.ParsingLemmas.{any_absent, any_read, behind, other_number}
use Rattle.wc_f4.proofs.addresses.address.Goals as goal

pub returns-in-Some-clause-read : goal.returns-in-Some-clause-read
returns-in-Some-clause-read c =
    λ part later facts.
    any_read (known c.args.names.now) later (place.address part) facts number c.in-Some.at (place.behind (place.after_address part c.in-Some.at)) (left c.args.reader.now) (left c.any_number.new.self) refl c.in-Some.ensures

pub returns-in-None-clause-read : goal.returns-in-None-clause-read
returns-in-None-clause-read c =
    λ part later facts.
    behind c.named.result _ _ _
    (any_absent (known c.args.names.now) later (place.address part) (place.label part) facts number (left c.args.reader.now) (left c.any_number.new.self) (λ t other. other_number t _ _ other) c.in-None.ensures)
    (c.named.ensures.read part later facts)
