use Rattle.std.proofs.Common.{rules}
use Rattle.wc_nestsolve.proofs.BestLemmas.{best_more, best_none}
use Rattle.wc_nestsolve.proofs.found.best_step.Goals as goal

pub loop-place-init : goal.loop-place-init
loop-place-init c = best_none _ _ _ _ _ _

pub loop-place-preserved : goal.loop-place-preserved
loop-place-preserved c = best_more _ _ _ _ _ _ _ _ _ c.loop-place.invariant (search rules) c.look-found.ensures
