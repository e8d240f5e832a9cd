use Rattle.std.proofs.Common.{◌≡◌, ◌+◌, ◌≤◌, length, drop}
use Rattle.std.specs.List.{flat_map}
use Rattle.wc_model.specs.declared.graphs.Graph.{Graph}
use Rattle.wc_model.specs.Flow.Systems.{fact_limits}
use Rattle.wc_system.proofs.limits.limit_count.Given as goal

abbrev pub invariant-loop-fact : goal.invariant-loop-fact
invariant-loop-fact l = record {
  few : l.count ≤ l.fact-index;
  to_come : (graph : Graph) → l.count + length (flat_map (λ f. fact_limits graph f.1) (drop l.fact-index l.facts)) ≡ length (flat_map (λ f. fact_limits graph f.1) l.facts);
}
