use Rattle.std.proofs.Common.{◌≡◌, length}
use Rattle.wc_nestsolve.proofs.classes.own_sizes.Given as goal

abbrev pub invariant-loop-inside : goal.invariant-loop-inside
invariant-loop-inside l = length l.sizes.items ≡ length l.nest.heads
