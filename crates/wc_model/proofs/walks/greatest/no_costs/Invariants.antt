use Rattle.std.proofs.Common.{◌≡◌, replicate, None}
use Rattle.wc_model.proofs.walks.greatest.no_costs.Given as goal

abbrev pub invariant-loop-node : goal.invariant-loop-node
invariant-loop-node l = l.best.items ≡ replicate l._node None
