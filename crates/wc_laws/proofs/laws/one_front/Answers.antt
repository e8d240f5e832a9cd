use Rattle.wc_laws.proofs.HistoryLemmas.{front_law}
use Rattle.wc_laws.proofs.laws.one_front.Goals as goal

pub returns : goal.returns
returns g c = front_law g.W.Outcomes.chain
