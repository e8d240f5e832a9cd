use Rattle.std.proofs.Common.{◌≡◌, length, take}
use Rattle.wc_registry.specs.Inner.Required.{AreProvided}
use Rattle.wc_registry.proofs.requirements.provided.Given as goal

abbrev pub invariant-loop-describe : goal.invariant-loop-describe
invariant-loop-describe l = record {
  are : AreProvided (take l.describe-index l.list) l.provided;
  counted : length l.provided ≡ 65;
}
