use Rattle.std.proofs.Common.{◌≡◌, ◌++◌, List, map, take, length}
use Rattle.wc_graph.specs.Inner.Sources.{AreSources, Edge, edge_of}
use Rattle.wc_graph.proofs.sources.Sources.add_all.Given as goal

abbrev pub invariant-loop-leap : goal.invariant-loop-leap
invariant-loop-leap l =
    record {
      sources : (edges : List Edge) → AreSources (length l.fn.self.into) edges l.fn.self → AreSources (length l.fn.self.into) (edges ++ map (edge_of l.source) (take l.leap-index l.leaps)) l.self;
      count : length l.self.into ≡ length l.fn.self.into;
    }
