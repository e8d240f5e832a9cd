use Rattle.wc_dual.proofs.laws.certificates_bound.Goals as goal
use Rattle.wc_dual.proofs.DualityLemmas.{certificates_bound}

pub returns : goal.returns
returns c = certificates_bound
