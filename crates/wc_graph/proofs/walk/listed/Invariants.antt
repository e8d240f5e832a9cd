use Rattle.std.proofs.Common.{ℕ, ◌≡◌, reverse, length}
use Rattle.wc_graph.specs.Inner.Lists.{Inside}
use Rattle.wc_graph.specs.Inner.Walks.{IsWalkable, IsWalking}
use Rattle.wc_graph.proofs.walk.listed.Given as goal

abbrev pub invariant-loop-round : goal.invariant-loop-round
invariant-loop-round l =
    record {
      walking : (entry : ℕ) → IsWalkable entry l.frames l.live → IsWalking entry l.frames l.live l.listed.items (reverse l.work.items);
      count : length l.listed.items ≡ l.round;
      inside : Inside (length l.frames) l.work.items;
    }
