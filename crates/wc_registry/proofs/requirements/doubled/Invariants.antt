use Rattle.std.proofs.Common.{take}
use Rattle.wc_registry.specs.Inner.Required.{AreDoubled, AreProvided}
use Rattle.wc_registry.proofs.requirements.doubled.Given as goal

abbrev pub invariant-loop-describe : goal.invariant-loop-describe
invariant-loop-describe l = record {
  are : AreProvided (take l.describe-index l.list) l.provided;
  doubled : AreDoubled (take l.describe-index l.list) l.doubled;
}
