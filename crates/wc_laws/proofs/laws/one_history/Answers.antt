use Rattle.wc_laws.proofs.HistoryLemmas.{history_law}
use Rattle.wc_laws.proofs.laws.one_history.Goals as goal

pub returns : goal.returns
returns g c = history_law g.W.Outcomes.chain
