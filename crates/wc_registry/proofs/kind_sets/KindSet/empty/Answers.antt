use Rattle.wc_registry.proofs.FaultLemmas.{none_held}
use Rattle.wc_registry.proofs.kind_sets.KindSet.empty.Goals as goal

pub returns-clause-empty : goal.returns-clause-empty
returns-clause-empty c = none_held 65
