use Rattle.std.proofs.Common.{ℕ, ◌≡◌, ◌<◌, length, Some}
use Rattle.std.specs.List.{Contains, slice_get}
use Rattle.wc_nest.specs.Inner.Classes.{IsRested}
use Rattle.wc_nest.specs.Inner.Marking.{IsMarked}
use Rattle.wc_nest.proofs.search.Search.classes.Given as goal

abbrev pub invariant-loop-node : goal.invariant-loop-node
invariant-loop-node l =
    record {
      rested : IsRested l.ways l.self;
      count : length l.self.marks.items ≡ length l.fn.self.marks.items;
      marked : (j p : ℕ) → j < l.node-index → slice_get l.members j ≡ Some p → IsMarked l.self.marks.items p;
      only : (p : ℕ) → IsMarked l.self.marks.items p → Contains l.members p;
    }
