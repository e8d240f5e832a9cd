use Rattle.std.proofs.Common.{◌-◌}
use Rattle.wc_registry.specs.Inner.KindSets.{size}
use Rattle.wc_registry.specs.Inner.Required.{IsFinding}
use Rattle.wc_registry.proofs.requirements.required.Given as goal

abbrev pub invariant-loop-describe : goal.invariant-loop-describe
invariant-loop-describe l = IsFinding l.list l.number l.found

abbrev pub decreases-loop-describe : goal.decreases-loop-describe
decreases-loop-describe l = 65 - size l.found
