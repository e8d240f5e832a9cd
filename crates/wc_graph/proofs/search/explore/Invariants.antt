use Rattle.std.proofs.Common.{◌-◌, List, length}
use Rattle.wc_model.specs.declared.flow_facts.Fact.{Fact}
use Rattle.wc_graph.specs.Inner.Searches.{IsReady, IsSearching}
use Rattle.wc_graph.specs.Inner.Stated.{AreStated}
use Rattle.wc_graph.proofs.search.explore.Given as goal

abbrev pub invariant-loop-alloc : goal.invariant-loop-alloc
invariant-loop-alloc l =
    record {
      ready : IsReady l.search;
      searching : (facts : List Fact) → AreStated facts l.stated → IsSearching l.image facts l.entry l.search;
    }

abbrev pub decreases-loop-alloc : goal.decreases-loop-alloc
decreases-loop-alloc l = 100000 - length l.search.code.leaps
