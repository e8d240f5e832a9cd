use Rattle.std.proofs.Common.{◌≡◌, List, sym, ap, subst, ◌∙◌}
use Rattle.wc_model.specs.declared.entries.Entry.{Entry}
use Rattle.wc_flight.proofs.HoldLemmas.{HasMet, HasSeen, list_told}
use Rattle.wc_flight.proofs.locked.Locked.list.Goals as goal

pub returns-clause-answer : goal.returns-clause-answer
returns-clause-answer g c =
    let before = c.self.inside.core in
    let mid = c.meet.new.pass in
    let seen = c.meet.ensures.seen ∙ sym c.self.view_is in
    let met : HasMet c.args.pass.now mid before = record { gains = c.meet.ensures.gains; seen = seen } in
    let grown = c.list.new.self in
    let saw : HasSeen mid c.publish_last.new.pass grown.history = record { new_is = c.publish_last.ensures.pass ∙ ap (λ (h : List Entry). record mid { seen = h }) c.history.ensures.history } in
    list_told c.args.pass.now mid c.publish_last.new.pass before grown met saw g.N.Named.opening c.session.result c.in_ok-listing.listing c.self.invariant.opening c.session.ensures c.in_ok-listing.ensures.answer
