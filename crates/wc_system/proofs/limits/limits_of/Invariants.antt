use Rattle.std.proofs.Common.{◌≡◌, ◌++◌, drop}
use Rattle.std.specs.List.{flat_map}
use Rattle.wc_model.specs.Flow.Systems.{fact_limits}
use Rattle.wc_system.proofs.limits.limits_of.Given as goal

abbrev pub invariant-loop-fact : goal.invariant-loop-fact
invariant-loop-fact l = l.limits.items ++ flat_map (λ f. fact_limits l.graph f.1) (drop l.fact-index l.facts) ≡ flat_map (λ f. fact_limits l.graph f.1) l.facts
