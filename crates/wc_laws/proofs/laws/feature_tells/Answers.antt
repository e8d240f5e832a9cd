use Rattle.wc_laws.proofs.FeatureTellsLemmas.{feature_tells}
use Rattle.wc_laws.proofs.laws.feature_tells.Goals as goal

pub returns : goal.returns
returns c = feature_tells
