use Rattle.std.proofs.Common.{◌≡◌, List, length, ap, ◌∙◌}
use Rattle.wc_model.specs.declared.graphs.Category.{Category}
use Rattle.wcet.proofs.CostLemmas.{categories_counted, costs_by_must}
use Rattle.wcet.proofs.costs.costs_of.Goals as goal

pub costs-requires-clause-count : goal.costs-requires-clause-count
costs-requires-clause-count g c =
    ap (λ (cs : List Category). length cs) c.as_slice.ensures.value ∙ categories_counted c.args.graph.now c.args.hardware.now.cache c.in_ok-known.known.items c.in_ok-known.ensures

pub returns : goal.returns
returns g c = costs_by_must c.args.graph.now c.args.hardware.now c.in_ok-known.known.items c.as_slice.result.now c.costs.result c.requires c.in_ok-known.ensures c.as_slice.ensures.value c.costs.ensures
