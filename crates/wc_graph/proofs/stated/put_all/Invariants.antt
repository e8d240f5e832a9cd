use Rattle.std.proofs.Common.{◌≡◌, map, drop}
use Rattle.wc_graph.specs.Inner.Stated.{key_of, with_all}
use Rattle.wc_graph.proofs.stated.put_all.Given as goal

abbrev pub invariant-loop-target : goal.invariant-loop-target
invariant-loop-target l = with_all l.keys.keys (map (key_of l.at) (drop l.target-index l.to)) ≡ with_all l.fn.keys.keys (map (key_of l.at) l.to)
