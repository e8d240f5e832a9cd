use Rattle.std.proofs.Common.{length, ◌-◌, ◌≡◌, ℕ, ◌<◌, ◌≤◌, slice_get, Some}
use Rattle.wc_model.proofs.walks.places.first_from.Given as goal

abbrev pub invariant-loop-place : goal.invariant-loop-place
invariant-loop-place g l =
    record {
      least : l.from ≤ l.place;
      inside : l.place ≤ length l.steps;
      below : (i : ℕ) (s : g.row.S.Denot) → l.from ≤ i → i < l.place → slice_get l.steps i ≡ Some s → (g.S.Arrow.ends s).source < l.node;
    }

abbrev pub decreases-loop-place : goal.decreases-loop-place
decreases-loop-place g l = length l.steps - l.place
