use Rattle.wc_session.proofs.AskLemmas.{IsAsking}
use Rattle.wc_session.proofs.LackLemmas.{to_come}
use Rattle.wc_session.proofs.asks.ask.Given as goal

abbrev pub invariant-loop-asked : goal.invariant-loop-asked
invariant-loop-asked g l = IsAsking g.W.Work.chain g.W.Work.is_feature l.name l.fn.core l.core l.ticket

abbrev pub decreases-loop-asked : goal.decreases-loop-asked
decreases-loop-asked g l = to_come l.fn.core.opening l.ticket
