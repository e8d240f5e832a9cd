use Rattle.std.proofs.Common.{◌≡◌, ◌++◌, map, drop}
use Rattle.wc_graph.specs.Inner.Ways.{jump_turn}
use Rattle.wc_graph.proofs.ways.push_jumps.Given as goal

abbrev pub invariant-loop-target : goal.invariant-loop-target
invariant-loop-target l = l.turns.items ++ map jump_turn (drop l.target-index l.targets) ≡ l.fn.turns.items ++ map jump_turn l.targets
