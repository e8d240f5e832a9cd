use Rattle.std.proofs.Common.{◌≡◌, sym, ap, subst}
use Rattle.wc_model.specs.Workspace.History.{IsLegal}
use Rattle.wc_pass.specs.Known.{Known}
use Rattle.wc_flight.proofs.NoteLemmas.{ready_learned}
use Rattle.wc_flight.proofs.tests.notes.learned.Goals as goal

pub list-requires-2-after_bounds : goal.list-requires-2-after_bounds
list-requires-2-after_bounds g c κs within =
    let o = g.N.Named.opening in
    let note = c.note-note.result in
    let theirs = subst (λ h. IsLegal _ o h) (sym (ap (λ (k : Known). k.seen) c.note-note.ensures.copy)) c.ask.ensures.legal in
    ready_learned _ g.N.Named.desk o c.list.new.pass c.learn-count.new.self note.seen c.learn-count.ensures.same.0 c.learn-count.ensures.same.1 c.learn-count.ensures.seen
    c.learn-count.ensures.before c.learn-count.ensures.own c.list.ensures.legal theirs c.list.ensures.ready
