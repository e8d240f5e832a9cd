use Rattle.std.proofs.Common.{◌≡◌, ℕ, ◌<◌, ◌≤◌, length, slice_get, Some}
use Rattle.wc_model.specs.Flow.Walks.{AreStarts}
use Rattle.wc_model.proofs.walks.places.starts.Given as goal

abbrev pub invariant-loop-node : goal.invariant-loop-node
invariant-loop-node g l =
    record {
      inside : l.place ≤ length l.steps;
      below : (i : ℕ) (s : g.row.S.Denot) → slice_get l.steps i ≡ Some s → i < l.place → (g.S.Arrow.ends s).source < l.node;
      so_far : AreStarts g.S.Arrow.ends l.node l.steps l.starts.items;
    }
