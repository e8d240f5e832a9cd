use Rattle.wc_flight.proofs.AskLemmas.{ran}
use Rattle.wc_flight.proofs.workspace.Workspace.ask.Goals as goal

pub loop-preserved-in-Run : goal.loop-preserved-in-Run
loop-preserved-in-Run g c = ran g.W.Work.chain g.W.Work.is_feature _ _ _ _ _ _ c.loop.invariant _ _ _ _ _ c.in-Run.ensures.answer c.run.ensures.ticket c.give.ensures.answer
