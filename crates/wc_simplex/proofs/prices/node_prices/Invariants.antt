use Rattle.std.proofs.Common.{◌≡◌, ◌≤◌, ◌++◌, drop}
use Rattle.wc_simplex.specs.Inner.Prices.{node_prices}
use Rattle.wc_simplex.proofs.prices.node_prices.Given as goal

abbrev pub invariant-loop-node : goal.invariant-loop-node
invariant-loop-node l = (l.next ≤ l.node) × (l.prices.items ++ node_prices (drop l.node l.passed) l.all l.next ≡ node_prices l.passed l.all 0)
