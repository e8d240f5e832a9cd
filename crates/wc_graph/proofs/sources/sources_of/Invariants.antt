use Rattle.std.proofs.Common.{take, length}
use Rattle.wc_graph.specs.Inner.Sources.{AreSources, edges_from}
use Rattle.wc_graph.proofs.sources.sources_of.Given as goal

abbrev pub invariant-loop-number : goal.invariant-loop-number
invariant-loop-number l = AreSources (length l.leaps) (edges_from 0 (take l.number l.leaps)) l.sources
