use Rattle.std.proofs.Common.{◌≡◌, map, take}
use Rattle.wc_model.specs.Cache.Costs.{upper}
use Rattle.wc_cost.proofs.upper.costs.Given as goal

abbrev pub invariant-loop-step : goal.invariant-loop-step
invariant-loop-step l = l.of.items ≡ map (upper l.graph l.categories l.cycles) (take l.step-index l.step-items)
