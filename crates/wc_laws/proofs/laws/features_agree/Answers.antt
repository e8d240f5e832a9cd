use Rattle.wc_laws.proofs.FeaturesAgreeLemmas.{features_agree}
use Rattle.wc_laws.proofs.laws.features_agree.Goals as goal

pub returns : goal.returns
returns c = features_agree
