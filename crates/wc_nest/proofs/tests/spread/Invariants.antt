use Rattle.std.proofs.Common.{ℕ, ◌≡◌, length}
use Rattle.wc_nest.specs.Inner.Checks.{AreJoined}
use Rattle.wc_nest.proofs.tests.spread.Given as goal

abbrev pub invariant-loop-index : goal.invariant-loop-index
invariant-loop-index l =
    record {
      count : length l.joined.items ≡ l.nodes;
      joined : (start : ℕ) → AreJoined l.steps start l.fn.joined.items → AreJoined l.steps start l.joined.items;
    }
