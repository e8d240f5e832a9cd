use Rattle.wc_laws.proofs.OneOutcomeLemmas.{one_outcome}
use Rattle.wc_laws.proofs.laws.one_outcome.Goals as goal

pub returns : goal.returns
returns c = one_outcome
