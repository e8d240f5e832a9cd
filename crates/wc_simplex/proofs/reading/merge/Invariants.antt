use Rattle.std.proofs.Common.{◌≡◌, map}
use Rattle.std.specs.List.{range_with_len}
use Rattle.wc_simplex.specs.Inner.Prices.{merged}
use Rattle.wc_simplex.proofs.reading.merge.Given as goal

abbrev pub invariant-loop-node : goal.invariant-loop-node
invariant-loop-node l = l.merged.items ≡ map (merged l.passed l.nodes l.inner) (range_with_len 0 l.node)
