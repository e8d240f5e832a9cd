use Rattle.std.proofs.Common.{◌≡◌, length, drop}
use Rattle.wc_nest.specs.Inner.Levels.{back_ways}
use Rattle.wc_nest.proofs.inner.back_all.Given as goal

abbrev pub invariant-loop-way : goal.invariant-loop-way
invariant-loop-way l =
    record {
      count : length l.back.items ≡ length l.fn.back.items;
      to_come : back_ways l.marks l.entered l.start l.back.items (drop l.way-index l.ways) ≡ back_ways l.marks l.entered l.start l.fn.back.items l.ways;
    }
