use Rattle.wc_nest.specs.Inner.Searches.{IsSearch, Spreads, rounds_left}
use Rattle.wc_nest.proofs.search.Search.run.Given as goal

abbrev pub invariant-loop-place : goal.invariant-loop-place
invariant-loop-place l =
    record {
      search : IsSearch l.ways l.self;
      spreads : Spreads l.ways l.fn.self.marks.items l.self.marks.items;
    }

abbrev pub decreases-loop-place : goal.decreases-loop-place
decreases-loop-place l = rounds_left l.ways l.self
