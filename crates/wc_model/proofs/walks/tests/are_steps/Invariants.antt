use Rattle.std.proofs.Common.{◌<◌, ◌≤◌, All, IfSome, take}
use Rattle.std.specs.List.{AllPairs}
use Rattle.wc_model.proofs.walks.tests.are_steps.Given as goal

abbrev pub invariant-loop-step : goal.invariant-loop-step
invariant-loop-step l =
    record {
      low : All (λ s. s.source ≤ l.last) (take l.step-index l.steps);
      sources : All (λ s. s.source < l.nodes) (take l.step-index l.steps);
      targets : All (λ s. IfSome s.target (λ q. q < l.nodes)) (take l.step-index l.steps);
      sorted : AllPairs (λ s t. s.source ≤ t.source) (take l.step-index l.steps);
    }
