use Rattle.std.proofs.Common.{◌≡◌, List, sym, ap, subst, ◌∙◌}
use Rattle.wc_model.specs.declared.entries.Entry.{Entry}
use Rattle.wc_flight.proofs.HoldLemmas.{HasMet, HasSeen, edit_told}
use Rattle.wc_flight.proofs.locked.Locked.edit.Goals as goal

pub returns-clause-answer : goal.returns-clause-answer
returns-clause-answer g c =
    let before = c.self.inside.core in
    let mid = c.meet.new.pass in
    let seen = c.meet.ensures.seen ∙ sym c.self.view_is in
    let met : HasMet c.args.pass.now mid before = record { gains = c.meet.ensures.gains; seen = seen } in
    let grown = c.edit.new.self in
    let saw : HasSeen mid c.publish_last.new.pass grown.history = record { new_is = c.publish_last.ensures.pass ∙ ap (λ (h : List Entry). record mid { seen = h }) c.history.ensures.history } in
    edit_told c.args.pass.now mid c.publish_last.new.pass before grown met saw c.session.result c.args.edit c.in_ok-edited.edited c.session.ensures c.in_ok-edited.ensures.answer
