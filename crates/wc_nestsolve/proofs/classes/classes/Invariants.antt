use Rattle.std.proofs.Common.{take}
use Rattle.wc_nestsolve.specs.Inner.Passes.{AreClasses}
use Rattle.wc_nestsolve.proofs.classes.classes.Given as goal

abbrev pub invariant-loop-node : goal.invariant-loop-node
invariant-loop-node l = AreClasses l.nest (take l.node-index l.order) l.classes.items
