use Rattle.std.proofs.Common.{◌≡◌, ◌+◌, ◌≤◌, length, drop}
use Rattle.wc_nest.specs.Inner.Levels.{listed, list_nodes}
use Rattle.wc_nest.proofs.listing.Listing.list_all.Given as goal

abbrev pub invariant-loop-node : goal.invariant-loop-node
invariant-loop-node l =
    record {
      nodes : length l.self.inside.items ≡ length l.marks;
      classes : length l.self.places.items ≡ length l.fn.self.places.items;
      room : length l.self.heads.items ≤ length l.fn.self.heads.items + l.node-index;
      to_come : list_nodes l.marks l.looped l.pairs (listed l.self) (drop l.node-index l.members) ≡ list_nodes l.marks l.looped l.pairs (listed l.fn.self) l.members;
    }
