use Rattle.std.proofs.Common.{◌≡◌, length}
use Rattle.wc_model.specs.Inner.Searches.{IsSearch, rounds_left}
use Rattle.wc_model.proofs.walks.search.order_nodes.Given as goal

abbrev pub invariant-loop-node : goal.invariant-loop-node
invariant-loop-node g l =
    record {
      search : IsSearch g.S.Arrow.ends l.steps l.search;
      start : l.search.start ≡ l.start;
      count : length l.search.marks.items ≡ l.nodes;
    }

abbrev pub decreases-loop-node : goal.decreases-loop-node
decreases-loop-node g l = rounds_left l.steps l.search
