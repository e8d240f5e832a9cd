use Rattle.std.proofs.Common.{◌≡◌, false, length, drop, replicate}
use Rattle.wc_nest.specs.Inner.Levels.{loop_ways}
use Rattle.wc_nest.proofs.entering.loops.Given as goal

abbrev pub invariant-loop-way : goal.invariant-loop-way
invariant-loop-way l =
    record {
      count : length l.looped.items ≡ l.count;
      to_come : loop_ways l.marks l.looped.items (drop l.way-index l.ways) ≡ loop_ways l.marks (replicate l.count false) l.ways;
    }
