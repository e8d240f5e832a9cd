use Rattle.std.proofs.Common.{◌≡◌, replicate, None}
use Rattle.wc_fix.proofs.fixing.no_states.Given as goal

abbrev pub invariant-loop-node : goal.invariant-loop-node
invariant-loop-node g l = l.states.items ≡ replicate l._node None
