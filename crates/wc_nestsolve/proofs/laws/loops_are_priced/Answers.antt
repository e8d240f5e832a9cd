use Rattle.wc_nestsolve.proofs.ExistingLemmas.{prices_exist}
use Rattle.wc_nestsolve.proofs.SolvableLemmas.{solvable_from}
use Rattle.wc_nestsolve.proofs.laws.loops_are_priced.Goals as goal

pub returns : goal.returns
returns c = λ graph nest s is_graph of given sound below. prices_exist nest s (solvable_from graph nest s is_graph of given sound below)
