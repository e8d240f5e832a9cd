use Rattle.std.proofs.Common.{◌≡◌, ◌<◌, List, length, reverse}
use Rattle.wc_model.specs.Flow.Bounds.{AreCalls, calls_fit}
use Rattle.wc_model.specs.Program.Positions.{Call}
use Rattle.wc_bounds.proofs.fitting.calls_are.Given as goal

abbrev pub invariant-loop-at : goal.invariant-loop-at
invariant-loop-at l =
    record {
      known : l.inner < length l.contexts;
      fits : (calls : List Call) → AreCalls l.contexts l.context calls → (others : List Call) × AreCalls l.contexts l.inner others × (calls_fit (reverse l.within) calls ≡ calls_fit (reverse l.rest) others);
    }

abbrev pub decreases-loop-at : goal.decreases-loop-at
decreases-loop-at l = length l.rest
