use Rattle.std.proofs.Common.{◌≡◌, map, take}
use Rattle.wc_nestsolve.specs.Inner.Raising.{settled}
use Rattle.wc_nestsolve.proofs.whole.settle.Given as goal

abbrev pub invariant-loop-value : goal.invariant-loop-value
invariant-loop-value l = l.values.items ≡ map settled (take l.value-index l.u)
