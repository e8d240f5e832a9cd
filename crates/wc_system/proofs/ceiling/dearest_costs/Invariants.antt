use Rattle.wc_system.specs.Inner.Capped.{AreDearest}
use Rattle.wc_system.proofs.ceiling.dearest_costs.Given as goal

abbrev pub invariant-loop-place : goal.invariant-loop-place
invariant-loop-place l = AreDearest l.steps l.nodes l.place l.costs.items
