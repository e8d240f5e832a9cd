use Rattle.std.proofs.Common.{◌≡◌, List, sym, ap, subst, ◌∙◌}
use Rattle.wc_model.specs.declared.entries.Entry.{Entry}
use Rattle.wc_flight.proofs.HoldLemmas.{HasMet, HasSeen, give_told, landed_met}
use Rattle.wc_flight.proofs.locked.Locked.give.Goals as goal

pub returns-clause-answer : goal.returns-clause-answer
returns-clause-answer g c =
    let before = c.self.inside.core in
    let mid = c.meet.new.pass in
    let seen = c.meet.ensures.seen ∙ sym c.self.view_is in
    let met : HasMet c.args.pass.now mid before = record { gains = c.meet.ensures.gains; seen = seen } in
    let grown = c.give-ticket.new.self in
    let saw : HasSeen mid c.publish_last.new.pass grown.history = record { new_is = c.publish_last.ensures.pass ∙ ap (λ (h : List Entry). record mid { seen = h }) c.history.ensures.history } in
    let fits = landed_met g.W.Work.is_feature g.N.Named.opening mid before seen c.self.invariant.opening c.args.landed (c.meet.ensures.keeps.landed c.args.landed c.requires.pass.1 c.requires.fits) in
    give_told c.args.pass.now mid c.publish_last.new.pass before grown met saw g.W.Work.chain g.W.Work.is_feature g.N.Named.desk g.N.Named.opening c.requires.pass.0 (c.give-ticket.ensures.goes.opening ∙ c.self.invariant.opening)
    c.args.landed c.give-ticket.result c.requires.pass.1 fits c.give-ticket.ensures.answer
