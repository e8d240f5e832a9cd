use Rattle.wc_dual.proofs.WalkLemmas.{walks_are_feasible}
use Rattle.wc_dual.proofs.laws.walks_are_feasible.Goals as goal

pub returns : goal.returns
returns c = walks_are_feasible
