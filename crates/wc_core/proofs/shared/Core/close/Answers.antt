use Rattle.wc_core.proofs.ClosingLemmas.{closed}
use Rattle.wc_core.proofs.shared.Core.close.Goals as goal

pub returns-clause-runs : goal.returns-clause-runs
returns-clause-runs g c st state kind = closed g.W.Work.chain g.W.Work.is_feature _ _ _ _ _ c.self.view_is c.self.invariant.0 c.close.ensures st state kind
