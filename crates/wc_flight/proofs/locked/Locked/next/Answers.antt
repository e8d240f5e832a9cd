use Rattle.std.proofs.Common.{◌≡◌, List, sym, ap, subst, ◌∙◌}
use Rattle.wc_model.specs.declared.entries.Entry.{Entry}
use Rattle.wc_flight.proofs.HoldLemmas.{HasMet, HasSeen, done_told, run_told, ticket_met}
use Rattle.wc_flight.proofs.locked.Locked.next.Goals as goal

pub returns-in-Run-clause-answer : goal.returns-in-Run-clause-answer
returns-in-Run-clause-answer g c =
    let before = c.self.inside.core in
    let mid = c.meet.new.pass in
    let seen = c.meet.ensures.seen ∙ sym c.self.view_is in
    let met : HasMet c.args.pass.now mid before = record { gains = c.meet.ensures.gains; seen = seen } in
    let grown = c.next.new.self in
    let saw : HasSeen mid c.publish_last.new.pass grown.history = record { new_is = c.publish_last.ensures.pass ∙ ap (λ (h : List Entry). record mid { seen = h }) c.history.ensures.history } in
    let fits = ticket_met g.W.Work.is_feature g.N.Named.opening mid before seen c.self.invariant.opening c.args.ticket (c.meet.ensures.keeps.tickets c.args.ticket c.requires.held.session_is c.requires.fits) in
    run_told c.args.pass.now mid c.publish_last.new.pass before grown met saw g.W.Work.chain g.W.Work.is_feature g.N.Named.desk g.N.Named.opening c.requires.held.desk_is (c.next.ensures.goes.opening ∙ c.self.invariant.opening)
    c.args.ticket c.in-Run.flight c.requires.held.session_is fits c.in-Run.ensures.answer

pub returns-in-Done-clause-answer : goal.returns-in-Done-clause-answer
returns-in-Done-clause-answer g c =
    let before = c.self.inside.core in
    let mid = c.meet.new.pass in
    let seen = c.meet.ensures.seen ∙ sym c.self.view_is in
    let met : HasMet c.args.pass.now mid before = record { gains = c.meet.ensures.gains; seen = seen } in
    let grown = c.next.new.self in
    let saw : HasSeen mid c.publish_last-in-Done.new.pass grown.history = record { new_is = c.publish_last-in-Done.ensures.pass ∙ ap (λ (h : List Entry). record mid { seen = h }) c.history-in-Done.ensures.history } in
    done_told c.args.pass.now mid c.publish_last-in-Done.new.pass before grown met saw g.W.Work.chain g.W.Work.is_feature g.N.Named.desk g.N.Named.opening c.requires.held.desk_is (c.next.ensures.goes.opening ∙ c.self.invariant.opening)
    c.args.ticket c.in-Done.asked c.self.invariant.opening c.requires.held.session_is c.in-Done.ensures.answer
