use Rattle.std.proofs.Common.{◌↔◌, ◌≤◌, length}
use Rattle.wc_graph.specs.Inner.Keys.{IsIn, after}
use Rattle.wc_graph.proofs.keys.has.Given as goal

abbrev pub invariant-loop-at : goal.invariant-loop-at
invariant-loop-at l =
    record {
      same : IsIn l.branches l.key l.digits l.at ↔ IsIn l.branches l.key l.key l.fn.root;
      inside : after l.at ≤ length l.branches;
    }

abbrev pub decreases-loop-at : goal.decreases-loop-at
decreases-loop-at l = after l.at
