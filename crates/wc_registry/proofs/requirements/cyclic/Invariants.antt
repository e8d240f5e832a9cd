use Rattle.std.proofs.Common.{take}
use Rattle.wc_registry.specs.Inner.Required.{AreCyclic}
use Rattle.wc_registry.proofs.requirements.cyclic.Given as goal

abbrev pub invariant-loop-describe : goal.invariant-loop-describe
invariant-loop-describe l = AreCyclic l.list (take l.describe-index l.list) l.cyclic
