use Rattle.std.proofs.Common.{◌≡◌, ◌++◌, map}
use Rattle.wc_graph.specs.Inner.Stated.{low, targets_in}
use Rattle.wc_graph.proofs.stated.targets.Given as goal

abbrev pub invariant-loop-key : goal.invariant-loop-key
invariant-loop-key l = l.found.items ++ map low l.key-iterator ≡ targets_in l.keys.keys l.at
