use Rattle.std.proofs.Common.{take}
use Rattle.wc_registry.specs.Inner.Required.{AreMissing}
use Rattle.wc_registry.proofs.requirements.missing.Given as goal

abbrev pub invariant-loop-describe : goal.invariant-loop-describe
invariant-loop-describe l = AreMissing l.list (take l.describe-index l.list) l.missing
