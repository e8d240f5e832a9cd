use Rattle.std.proofs.Common.{ℕ, ◌≡◌, ◌*◌, ◌<◌, ◌≤◌, ◌^◌, length, get_or, IfSome, None, Some, All}
use Rattle.std.specs.List.{slice_get}
use Rattle.wc_model.specs.Flow.Walks.{IsBest}
use Rattle.wc_model.proofs.walks.greatest.greatest_costs.Given as goal

abbrev pub invariant-loop-node : goal.invariant-loop-node
invariant-loop-node l =
    record {
      count : length l.best.items ≡ l.nodes;
      so_far : (j p : ℕ) → j < l.node-index → slice_get l.order j ≡ Some p → IsBest l.steps p (get_or l.best.items p None);
      small : All (λ b. IfSome b (λ n. n ≤ l.node-index * 2 ^ 64)) l.best.items;
    }
