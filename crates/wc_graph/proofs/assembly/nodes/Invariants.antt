use Rattle.std.proofs.Common.{◌≡◌, flat_map, take}
use Rattle.wc_graph.specs.Inner.Assemblies.{node_of}
use Rattle.wc_graph.proofs.assembly.nodes.Given as goal

abbrev pub invariant-loop-number : goal.invariant-loop-number
invariant-loop-number l = l.nodes.items ≡ flat_map (node_of l.image l.places l.ranks) (take l.number-index l.order)
