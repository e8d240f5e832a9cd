use Rattle.wc_nestsolve.proofs.SolvableLemmas.{solvable_from}
use Rattle.wc_nestsolve.proofs.whole.solve.Goals as goal

pub solve_nest-requires-clause-solvable : goal.solve_nest-requires-clause-solvable
solve_nest-requires-clause-solvable c = solvable_from _ _ _ c.requires.graph c.requires.nest c.requires.system c.requires.sound c.requires.below
