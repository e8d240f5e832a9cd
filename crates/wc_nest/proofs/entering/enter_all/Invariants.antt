use Rattle.std.proofs.Common.{◌≡◌, length, drop}
use Rattle.wc_nest.specs.Inner.Levels.{enter_ways}
use Rattle.wc_nest.proofs.entering.enter_all.Given as goal

abbrev pub invariant-loop-way : goal.invariant-loop-way
invariant-loop-way l =
    record {
      flags : length l.entered.items ≡ length l.marks;
      to_come : enter_ways l.marks l.entered.items (drop l.way-index l.ways) ≡ enter_ways l.marks l.fn.entered.items l.ways;
    }
