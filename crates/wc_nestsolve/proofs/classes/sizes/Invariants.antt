use Rattle.std.proofs.Common.{◌≡◌, ◌≤◌, length}
use Rattle.wc_nestsolve.proofs.classes.sizes.Given as goal

abbrev pub invariant-loop-left : goal.invariant-loop-left
invariant-loop-left l = (length l.sizes.items ≡ length l.nest.heads) × (l.left ≤ length l.nest.heads)

abbrev pub decreases-loop-left : goal.decreases-loop-left
decreases-loop-left l = l.left
