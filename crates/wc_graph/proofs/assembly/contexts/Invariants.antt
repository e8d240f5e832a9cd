use Rattle.std.proofs.Common.{◌≡◌, map, take}
use Rattle.wc_graph.specs.Inner.Assemblies.{context_of}
use Rattle.wc_graph.proofs.assembly.contexts.Given as goal

abbrev pub invariant-loop-number : goal.invariant-loop-number
invariant-loop-number l = l.contexts.items ≡ map (context_of l.frames l.ranks) (take l.number-index l.listed)
