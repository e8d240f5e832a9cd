use Rattle.std.proofs.Common.{◌≡◌, length}
use Rattle.wc_nest.specs.Inner.Checks.{AreEnding}
use Rattle.wc_nest.proofs.tests.gather.Given as goal

abbrev pub invariant-loop-index : goal.invariant-loop-index
invariant-loop-index l =
    record {
      count : length l.ending.items ≡ l.nodes;
      ending : AreEnding l.steps l.fn.ending.items → AreEnding l.steps l.ending.items;
    }
