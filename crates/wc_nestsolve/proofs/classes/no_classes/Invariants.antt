use Rattle.std.proofs.Common.{◌≡◌, [], replicate}
use Rattle.wc_nestsolve.proofs.classes.no_classes.Given as goal

abbrev pub invariant-loop-size : goal.invariant-loop-size
invariant-loop-size l = l.classes.items ≡ replicate l.size-index []
