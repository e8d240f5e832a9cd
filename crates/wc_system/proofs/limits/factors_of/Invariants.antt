use Rattle.std.proofs.Common.{◌≡◌, ◌++◌, drop}
use Rattle.std.specs.List.{filter}
use Rattle.wc_model.specs.Flow.Systems.{counts_some}
use Rattle.wc_system.specs.Inner.Terms.{visit_pairs}
use Rattle.wc_system.proofs.limits.factors_of.Given as goal

abbrev pub invariant-loop-place : goal.invariant-loop-place
invariant-loop-place l =
    l.factors.items ++ filter counts_some (visit_pairs l.contexts l.plus l.minus l.place (drop l.place l.nodes)) ≡ filter counts_some (visit_pairs l.contexts l.plus l.minus 0 l.nodes)
