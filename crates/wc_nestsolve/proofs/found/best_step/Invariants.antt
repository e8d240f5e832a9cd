use Rattle.wc_nestsolve.specs.Inner.Tables.{IsBestIn}
use Rattle.wc_nestsolve.proofs.found.best_step.Given as goal

abbrev pub invariant-loop-place : goal.invariant-loop-place
invariant-loop-place l = IsBestIn l.system l.nest l.goal l.extra l.best l.from l.place l.found
