use Rattle.std.proofs.Common.{◌≡◌, length, drop, replicate}
use Rattle.wc_nest.specs.Inner.Levels.{no_heads, note_nodes}
use Rattle.wc_nest.proofs.heads.heads_of.Given as goal

abbrev pub invariant-loop-node : goal.invariant-loop-node
invariant-loop-node l =
    record {
      count : length l.pairs.items ≡ l.count;
      to_come : note_nodes l.marks l.entered l.start l.pairs.items (drop l.node-index l.members) ≡ note_nodes l.marks l.entered l.start (replicate l.count no_heads) l.members;
    }
