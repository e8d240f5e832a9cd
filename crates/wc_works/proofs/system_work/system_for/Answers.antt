use Rattle.std.proofs.Common.{[], ◌∷◌, ap, sym}
use Rattle.wc_nestsolve.proofs.ShapeLemmas.{nest_shape}
use Rattle.wc_laws.proofs.JoinedLemmas.{both_parts}
use Rattle.wc_works.proofs.SystemLemmas.{bounds_counted, costs_counted, nest_at}
use Rattle.wc_model.specs.Workspace.Edits.{Setting, setting_of}
use Rattle.wc_model.specs.Workspace.Feature.{Both, BoundsFeature, CostFeature, GraphFeature, NestFeature}
use Rattle.wc_registry.proofs.KindLemmas.{first_there, later_there}
use Rattle.wc_works.proofs.GivenLemmas.{graph_known, there}
use Rattle.wc_works.proofs.NeedLemmas.{SystemNeed, SystemThen, system_need, see4}
use Rattle.wc_works.proofs.PassingLemmas.{goes_on, passes, value_seen}
use Rattle.wc_works.proofs.system_work.system_for.Goals as goal

pub graph_in-requires : goal.graph_in-requires
graph_in-requires c = there c.args.job.now c.args.given.now 9 c.requires 1 (first_there 1 (2 ∷ 3 ∷ 8 ∷ []))

pub nest_in-requires : goal.nest_in-requires
nest_in-requires c = there c.args.job.now c.args.given.now 9 c.requires 2 (later_there 1 2 (2 ∷ 3 ∷ 8 ∷ []) (first_there 2 (3 ∷ 8 ∷ [])))

pub bounds_in-requires : goal.bounds_in-requires
bounds_in-requires c = there c.args.job.now c.args.given.now 9 c.requires 3 (later_there 1 3 (2 ∷ 3 ∷ 8 ∷ []) (later_there 2 3 (3 ∷ 8 ∷ []) (first_there 3 (8 ∷ []))))

pub cost_in-requires : goal.cost_in-requires
cost_in-requires c = there c.args.job.now c.args.given.now 9 c.requires 8 (later_there 1 8 (2 ∷ 3 ∷ 8 ∷ []) (later_there 2 8 (3 ∷ 8 ∷ []) (later_there 3 8 (8 ∷ []) (first_there 8 []))))

pub returns-in-Err-clause-feature : goal.returns-in-Err-clause-feature
returns-in-Err-clause-feature c = passes (SystemNeed (setting_of c.args.job.now.inputs.value) c.args.job.now.name.value) (SystemThen (setting_of c.args.job.now.inputs.value) c.args.job.now.name.value) see4 c.both.result (system_need c.args.job.now c.args.given.now c.requires c.graph_in.result c.nest_in.result c.bounds_in.result c.cost_in.result c.both-nested.result c.both-bounded.result c.both.result c.graph_in.ensures c.nest_in.ensures c.bounds_in.ensures c.cost_in.ensures c.both-nested.ensures c.both-bounded.ensures c.both.ensures) c.in-Err.fault c.in-Err.is

pub system-requires-clause-graph : goal.system-requires-clause-graph
system-requires-clause-graph c =
    let seen_is = value_seen (SystemNeed (setting_of c.args.job.now.inputs.value) c.args.job.now.name.value) (SystemThen (setting_of c.args.job.now.inputs.value) c.args.job.now.name.value) see4 c.both.result (system_need c.args.job.now c.args.given.now c.requires c.graph_in.result c.nest_in.result c.bounds_in.result c.cost_in.result c.both-nested.result c.both-bounded.result c.both.result c.graph_in.ensures c.nest_in.ensures c.bounds_in.ensures c.cost_in.ensures c.both-nested.ensures c.both-bounded.ensures c.both.ensures) _ c.in-Ok.is in
    let costed = both_parts (Both (Both (GraphFeature (setting_of c.args.job.now.inputs.value) c.args.job.now.name.value) (NestFeature (setting_of c.args.job.now.inputs.value) c.args.job.now.name.value)) (BoundsFeature (setting_of c.args.job.now.inputs.value) c.args.job.now.name.value)) (CostFeature (setting_of c.args.job.now.inputs.value) c.args.job.now.name.value) _ seen_is in
    let bounded = both_parts (Both (GraphFeature (setting_of c.args.job.now.inputs.value) c.args.job.now.name.value) (NestFeature (setting_of c.args.job.now.inputs.value) c.args.job.now.name.value)) (BoundsFeature (setting_of c.args.job.now.inputs.value) c.args.job.now.name.value) _ costed.0 in
    let parts = both_parts (GraphFeature (setting_of c.args.job.now.inputs.value) c.args.job.now.name.value) (NestFeature (setting_of c.args.job.now.inputs.value) c.args.job.now.name.value) _ bounded.0 in
    (graph_known c.args.job.now c.args.given.now 9 c.requires (first_there 1 (2 ∷ 3 ∷ 8 ∷ [])) c.in-Ok.graph.now parts.0)

pub system-requires-clause-nest : goal.system-requires-clause-nest
system-requires-clause-nest c =
    let seen_is = value_seen (SystemNeed (setting_of c.args.job.now.inputs.value) c.args.job.now.name.value) (SystemThen (setting_of c.args.job.now.inputs.value) c.args.job.now.name.value) see4 c.both.result (system_need c.args.job.now c.args.given.now c.requires c.graph_in.result c.nest_in.result c.bounds_in.result c.cost_in.result c.both-nested.result c.both-bounded.result c.both.result c.graph_in.ensures c.nest_in.ensures c.bounds_in.ensures c.cost_in.ensures c.both-nested.ensures c.both-bounded.ensures c.both.ensures) _ c.in-Ok.is in
    let costed = both_parts (Both (Both (GraphFeature (setting_of c.args.job.now.inputs.value) c.args.job.now.name.value) (NestFeature (setting_of c.args.job.now.inputs.value) c.args.job.now.name.value)) (BoundsFeature (setting_of c.args.job.now.inputs.value) c.args.job.now.name.value)) (CostFeature (setting_of c.args.job.now.inputs.value) c.args.job.now.name.value) _ seen_is in
    let bounded = both_parts (Both (GraphFeature (setting_of c.args.job.now.inputs.value) c.args.job.now.name.value) (NestFeature (setting_of c.args.job.now.inputs.value) c.args.job.now.name.value)) (BoundsFeature (setting_of c.args.job.now.inputs.value) c.args.job.now.name.value) _ costed.0 in
    let parts = both_parts (GraphFeature (setting_of c.args.job.now.inputs.value) c.args.job.now.name.value) (NestFeature (setting_of c.args.job.now.inputs.value) c.args.job.now.name.value) _ bounded.0 in
    nest_shape c.in-Ok.graph.now (graph_known c.args.job.now c.args.given.now 9 c.requires (first_there 1 (2 ∷ 3 ∷ 8 ∷ [])) c.in-Ok.graph.now parts.0) c.in-Ok.nest.now (nest_at (setting_of c.args.job.now.inputs.value) c.args.job.now.name.value c.in-Ok.graph.now parts.0 c.in-Ok.nest.now parts.1)

pub system-requires-clause-bounds : goal.system-requires-clause-bounds
system-requires-clause-bounds c =
    let seen_is = value_seen (SystemNeed (setting_of c.args.job.now.inputs.value) c.args.job.now.name.value) (SystemThen (setting_of c.args.job.now.inputs.value) c.args.job.now.name.value) see4 c.both.result (system_need c.args.job.now c.args.given.now c.requires c.graph_in.result c.nest_in.result c.bounds_in.result c.cost_in.result c.both-nested.result c.both-bounded.result c.both.result c.graph_in.ensures c.nest_in.ensures c.bounds_in.ensures c.cost_in.ensures c.both-nested.ensures c.both-bounded.ensures c.both.ensures) _ c.in-Ok.is in
    let costed = both_parts (Both (Both (GraphFeature (setting_of c.args.job.now.inputs.value) c.args.job.now.name.value) (NestFeature (setting_of c.args.job.now.inputs.value) c.args.job.now.name.value)) (BoundsFeature (setting_of c.args.job.now.inputs.value) c.args.job.now.name.value)) (CostFeature (setting_of c.args.job.now.inputs.value) c.args.job.now.name.value) _ seen_is in
    let bounded = both_parts (Both (GraphFeature (setting_of c.args.job.now.inputs.value) c.args.job.now.name.value) (NestFeature (setting_of c.args.job.now.inputs.value) c.args.job.now.name.value)) (BoundsFeature (setting_of c.args.job.now.inputs.value) c.args.job.now.name.value) _ costed.0 in
    let parts = both_parts (GraphFeature (setting_of c.args.job.now.inputs.value) c.args.job.now.name.value) (NestFeature (setting_of c.args.job.now.inputs.value) c.args.job.now.name.value) _ bounded.0 in
    bounds_counted (setting_of c.args.job.now.inputs.value) c.args.job.now.name.value c.in-Ok.graph.now parts.0 c.in-Ok.nest.now parts.1 c.in-Ok.bounds.now bounded.1

pub system-requires-clause-costs : goal.system-requires-clause-costs
system-requires-clause-costs c =
    let seen_is = value_seen (SystemNeed (setting_of c.args.job.now.inputs.value) c.args.job.now.name.value) (SystemThen (setting_of c.args.job.now.inputs.value) c.args.job.now.name.value) see4 c.both.result (system_need c.args.job.now c.args.given.now c.requires c.graph_in.result c.nest_in.result c.bounds_in.result c.cost_in.result c.both-nested.result c.both-bounded.result c.both.result c.graph_in.ensures c.nest_in.ensures c.bounds_in.ensures c.cost_in.ensures c.both-nested.ensures c.both-bounded.ensures c.both.ensures) _ c.in-Ok.is in
    let costed = both_parts (Both (Both (GraphFeature (setting_of c.args.job.now.inputs.value) c.args.job.now.name.value) (NestFeature (setting_of c.args.job.now.inputs.value) c.args.job.now.name.value)) (BoundsFeature (setting_of c.args.job.now.inputs.value) c.args.job.now.name.value)) (CostFeature (setting_of c.args.job.now.inputs.value) c.args.job.now.name.value) _ seen_is in
    let bounded = both_parts (Both (GraphFeature (setting_of c.args.job.now.inputs.value) c.args.job.now.name.value) (NestFeature (setting_of c.args.job.now.inputs.value) c.args.job.now.name.value)) (BoundsFeature (setting_of c.args.job.now.inputs.value) c.args.job.now.name.value) _ costed.0 in
    let parts = both_parts (GraphFeature (setting_of c.args.job.now.inputs.value) c.args.job.now.name.value) (NestFeature (setting_of c.args.job.now.inputs.value) c.args.job.now.name.value) _ bounded.0 in
    costs_counted (setting_of c.args.job.now.inputs.value) c.args.job.now.name.value c.in-Ok.graph.now parts.0 c.in-Ok.costs.now costed.1

pub returns-in-Ok-clause-feature : goal.returns-in-Ok-clause-feature
returns-in-Ok-clause-feature c = goes_on (SystemNeed (setting_of c.args.job.now.inputs.value) c.args.job.now.name.value) (SystemThen (setting_of c.args.job.now.inputs.value) c.args.job.now.name.value) see4 c.both.result (system_need c.args.job.now c.args.given.now c.requires c.graph_in.result c.nest_in.result c.bounds_in.result c.cost_in.result c.both-nested.result c.both-bounded.result c.both.result c.graph_in.ensures c.nest_in.ensures c.bounds_in.ensures c.cost_in.ensures c.both-nested.ensures c.both-bounded.ensures c.both.ensures) _ c.in-Ok.is _ (c.system.ensures.answer (setting_of c.args.job.now.inputs.value) (ap (λ (s : Setting). s.facts) (sym (ap setting_of c.deref.ensures))))
