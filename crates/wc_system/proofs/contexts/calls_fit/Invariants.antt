use Rattle.std.proofs.Common.{◌≡◌, ◌<◌, length, reverse}
use Rattle.wc_model.specs.Flow.Bounds.{calls_fit as fits_calls}
use Rattle.wc_system.specs.Inner.Contexts.{calls_in}
use Rattle.wc_system.proofs.contexts.calls_fit.Given as goal

abbrev pub invariant-loop-at : goal.invariant-loop-at
invariant-loop-at l = record {
  known : l.context < length l.contexts;
  to_come : fits_calls (reverse l.rest) (calls_in l.contexts l.context) ≡ fits_calls (reverse l.within) (calls_in l.contexts l.fn.context);
}

abbrev pub decreases-loop-at : goal.decreases-loop-at
decreases-loop-at l = length l.rest
