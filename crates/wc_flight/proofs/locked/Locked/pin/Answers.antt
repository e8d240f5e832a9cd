use Rattle.std.proofs.Common.{◌≡◌, List, sym, ap, subst, ◌∙◌}
use Rattle.wc_model.specs.declared.entries.Entry.{Entry}
use Rattle.wc_flight.proofs.HoldLemmas.{HasMet, HasSeen, pin_told}
use Rattle.wc_flight.proofs.locked.Locked.pin.Goals as goal

pub returns-clause-answer : goal.returns-clause-answer
returns-clause-answer g c =
    let before = c.self.inside.core in
    let mid = c.meet.new.pass in
    let seen = c.meet.ensures.seen ∙ sym c.self.view_is in
    let met : HasMet c.args.pass.now mid before = record { gains = c.meet.ensures.gains; seen = seen } in
    let grown = c.pin.new.self in
    let saw : HasSeen mid c.publish_last.new.pass grown.history = record { new_is = c.publish_last.ensures.pass ∙ ap (λ (h : List Entry). record mid { seen = h }) c.history.ensures.history } in
    pin_told c.args.pass.now mid c.publish_last.new.pass before grown met saw g.W.Work.chain g.W.Work.is_feature g.N.Named.desk g.N.Named.opening c.requires.ready.desk_is (c.pin.ensures.goes.opening ∙ c.self.invariant.opening)
    c.session.result c.args.name.now c.in_ok-ticket.ticket c.session.ensures c.in_ok-ticket.ensures.ok
