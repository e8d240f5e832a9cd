use Rattle.std.proofs.Common.{◌≡◌, ◌++◌, drop}
use Rattle.wc_model.specs.Flow.Systems.{system_steps}
use Rattle.wc_system.proofs.steps.costed_steps.Given as goal

abbrev pub invariant-loop-place : goal.invariant-loop-place
invariant-loop-place l = l.costed.items ++ system_steps (drop l.place l.steps) (drop l.place l.costs) ≡ system_steps l.steps l.costs
