use Rattle.std.proofs.Common.{◌≡◌, ◌≤◌, map}
use Rattle.std.specs.List.{range_with_len}
use Rattle.wc_simplex.proofs.tests.limit.Given as goal

abbrev pub invariant-loop-node : goal.invariant-loop-node
invariant-loop-node l = record {
  within : l.node ≤ 6;
  named : map (λ f. f.0) l.named.items ≡ range_with_len 0 l.node;
}
