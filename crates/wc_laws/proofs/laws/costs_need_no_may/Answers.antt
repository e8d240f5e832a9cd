use Rattle.wc_laws.proofs.LeaveMayOut.{costs_need_no_may}
use Rattle.wc_laws.proofs.laws.costs_need_no_may.Goals as goal

pub returns : goal.returns
returns c = costs_need_no_may
