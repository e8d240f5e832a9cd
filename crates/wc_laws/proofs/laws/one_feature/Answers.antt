use Rattle.wc_laws.proofs.OneValueLemmas.{one_feature}
use Rattle.wc_laws.proofs.laws.one_feature.Goals as goal

pub returns : goal.returns
returns c = one_feature
