use Rattle.std.proofs.Common.{ℕ, ◌+◌, ◌<◌, ◌≤◌, ◌^◌, take, IfSome, All}
use Rattle.wc_model.specs.Inner.Greatest.{IsGreatestOf, cost_through}
use Rattle.wc_model.proofs.walks.greatest.greatest_through.Given as goal

abbrev pub invariant-loop-step : goal.invariant-loop-step
invariant-loop-step l =
    record {
      so_far : IsGreatestOf (cost_through l.best) (take l.step-index l.steps) l.greatest;
      small : (m : ℕ) → All (λ b. IfSome b (λ n. n ≤ m)) l.best → IfSome l.greatest (λ n. n < m + 2 ^ 64);
    }
