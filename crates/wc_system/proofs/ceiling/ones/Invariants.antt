use Rattle.std.proofs.Common.{◌≡◌, replicate}
use Rattle.wc_system.proofs.ceiling.ones.Given as goal

abbrev pub invariant-loop : goal.invariant-loop
invariant-loop l = l.ones.items ≡ replicate l.counter 1
