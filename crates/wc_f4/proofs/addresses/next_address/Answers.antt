use Rattle.std.proofs.Common.{ℕ, List, sym, ap, ◌∙◌}
use Rattle.wc_f4.specs.Places as place
use Rattle.wc_f4.specs.Places.{answer}
use Rattle.wc_f4.specs.Views.{known, left}
use Rattle.wc_f4.proofs.ParsingLemmas.{after_list, passed_on}
use Rattle.wc_f4.proofs.addresses.next_address.Goals as goal

pub returns-in_err-at-clause-read : goal.returns-in_err-at-clause-read
returns-in_err-at-clause-read c =
    λ owner later facts. passed_on c.from_residual.result _ _ _ _ c.from_residual.ensures.1 (c.in_err-at.ensures.read (place.listed owner c.args.addresses.now.items) later facts)

pub returns-clause-read : goal.returns-clause-read
returns-clause-read c =
    λ owner later facts.
    c.in_ok-at.ensures.read (place.listed owner c.args.addresses.now.items) later facts
    ∙ ap (λ (list : List ℕ). answer (known c.address.new.names) later (place.behind (place.after_listed owner list)) facts (left c.address.new.reader)) (sym c.in_ok-push.ensures.items)
    ∙ after_list (known c.address.new.names) later facts owner c.push.new.self.items c.has_mark.result (left c.address.new.reader) (left c.has_mark.new.self) c.has_mark.ensures
