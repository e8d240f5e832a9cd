use Rattle.std.proofs.Common.{◌<◌, sym, subst}
use Rattle.wc_model.specs.Workspace.States.{Opening}
use Rattle.wc_session.specs.Alone.{IsAlone}
use Rattle.wc_session.proofs.AloneLemmas.{waits_for_nobody}
use Rattle.wc_session.proofs.AskLemmas.{gave}
use Rattle.wc_session.proofs.LackLemmas.{falls, to_come}
use Rattle.wc_session.proofs.asks.ask.Goals as goal

pub loop-asked-smaller-in-Run : goal.loop-asked-smaller-in-Run
loop-asked-smaller-in-Run g c =
    let i = c.loop-asked.invariant in
    subst (λ (o : Opening). to_come o c.give-ticket.result < to_come o c.loop-asked.ticket) i.opening
    (falls g.W.Work.chain g.W.Work.is_feature c.loop-asked.core c.next.new.self c.give-ticket.new.self c.loop-asked.ticket c.in-Run.flight c.run.result c.give-ticket.result
    i.fits i.legal c.in-Run.ensures.answer c.next.ensures.goes c.run.ensures.ticket c.run.ensures.work.0 c.give-ticket.ensures.answer c.give-ticket.ensures.goes)

pub loop-asked-preserved-in-Run : goal.loop-asked-preserved-in-Run
loop-asked-preserved-in-Run g c =
    gave g.W.Work.chain g.W.Work.is_feature _ _ c.loop-asked.core c.next.new.self c.give-ticket.new.self c.loop-asked.ticket c.in-Run.flight c.run.result c.give-ticket.result
    c.loop-asked.invariant c.in-Run.ensures.answer c.next.ensures.goes c.run.ensures.ticket c.give-ticket.ensures.answer c.give-ticket.ensures.goes

-- one session waits for nobody

pub loop-asked-smaller : goal.loop-asked-smaller
loop-asked-smaller g c =
    let i = c.loop-asked.invariant in
    absurd (waits_for_nobody g.W.Work.is_feature c.loop-asked.core c.loop-asked.ticket _ (subst (λ (o : Opening). IsAlone o) (sym i.opening) c.requires.alone) i.session i.fits c.in-Busy.ensures.answer.turn)

pub loop-asked-preserved : goal.loop-asked-preserved
loop-asked-preserved g c =
    let i = c.loop-asked.invariant in
    absurd (waits_for_nobody g.W.Work.is_feature c.loop-asked.core c.loop-asked.ticket _ (subst (λ (o : Opening). IsAlone o) (sym i.opening) c.requires.alone) i.session i.fits c.in-Busy.ensures.answer.turn)
