use Rattle.std.proofs.Common.{◌≡◌, [], ◌∷◌, ap, subst, ◌∙◌}
use Rattle.std.specs.Prelude.{IfOk, length}
use Rattle.wc_model.specs.Cache.Costs.{upper_costs}
use Rattle.wc_laws.proofs.JoinedLemmas.{both_parts}
use Rattle.wc_works.proofs.PhaseLemmas.{always_answers, categories_counted}
use Rattle.wc_works.proofs.SystemLemmas.{categories_at}
use Rattle.wc_model.specs.Workspace.Edits.{Setting, setting_of}
use Rattle.wc_model.specs.Workspace.Feature.{CategoryFeature, GraphFeature}
use Rattle.wc_registry.proofs.KindLemmas.{first_there, later_there}
use Rattle.wc_works.proofs.GivenLemmas.{graph_known, there}
use Rattle.wc_works.proofs.NeedLemmas.{CostNeed, CostThen, cost_need, see2}
use Rattle.wc_works.proofs.PassingLemmas.{goes_on, passes, value_seen}
use Rattle.wc_works.proofs.cost_work.cost_for.Goals as goal

pub graph_in-requires : goal.graph_in-requires
graph_in-requires c = there c.args.job.now c.args.given.now 8 c.requires 1 (first_there 1 (7 ∷ []))

pub category_in-requires : goal.category_in-requires
category_in-requires c = there c.args.job.now c.args.given.now 8 c.requires 7 (later_there 1 7 (7 ∷ []) (first_there 7 []))

pub returns-in-Err : goal.returns-in-Err
returns-in-Err c = passes (CostNeed (setting_of c.args.job.now.inputs.value) c.args.job.now.name.value) (CostThen (setting_of c.args.job.now.inputs.value) c.args.job.now.name.value) see2 c.both.result (cost_need c.args.job.now c.args.given.now c.requires c.graph_in.result c.category_in.result c.both.result c.graph_in.ensures c.category_in.ensures c.both.ensures) c.in-Err.fault c.in-Err.is

pub costs-requires-clause-sources : goal.costs-requires-clause-sources
costs-requires-clause-sources c =
    let seen_is = value_seen (CostNeed (setting_of c.args.job.now.inputs.value) c.args.job.now.name.value) (CostThen (setting_of c.args.job.now.inputs.value) c.args.job.now.name.value) see2 c.both.result (cost_need c.args.job.now c.args.given.now c.requires c.graph_in.result c.category_in.result c.both.result c.graph_in.ensures c.category_in.ensures c.both.ensures) _ c.in-Ok.is in
    let parts = both_parts (GraphFeature (setting_of c.args.job.now.inputs.value) c.args.job.now.name.value) (CategoryFeature (setting_of c.args.job.now.inputs.value) c.args.job.now.name.value) _ seen_is in
    (graph_known c.args.job.now c.args.given.now 8 c.requires (first_there 1 (7 ∷ [])) c.in-Ok.graph.now parts.0).sources

pub costs-requires-clause-count : goal.costs-requires-clause-count
costs-requires-clause-count c =
    let seen_is = value_seen (CostNeed (setting_of c.args.job.now.inputs.value) c.args.job.now.name.value) (CostThen (setting_of c.args.job.now.inputs.value) c.args.job.now.name.value) see2 c.both.result (cost_need c.args.job.now c.args.given.now c.requires c.graph_in.result c.category_in.result c.both.result c.graph_in.ensures c.category_in.ensures c.both.ensures) _ c.in-Ok.is in
    let parts = both_parts (GraphFeature (setting_of c.args.job.now.inputs.value) c.args.job.now.name.value) (CategoryFeature (setting_of c.args.job.now.inputs.value) c.args.job.now.name.value) _ seen_is in
    ap (λ xs. length xs) c.items.ensures ∙ categories_counted c.in-Ok.graph.now (setting_of c.args.job.now.inputs.value).hardware.cache c.in-Ok.categories.now (categories_at (setting_of c.args.job.now.inputs.value) c.args.job.now.name.value c.in-Ok.graph.now parts.0 c.in-Ok.categories.now parts.1)

pub returns-in-Ok : goal.returns-in-Ok
returns-in-Ok c =
    let priced = subst (λ (s : Setting). IfOk c.costs.result (λ costs. costs.of ≡ upper_costs c.in-Ok.graph.now c.items.result.now s.hardware.cycles)) (ap setting_of c.deref.ensures) c.costs.ensures in
    goes_on (CostNeed (setting_of c.args.job.now.inputs.value) c.args.job.now.name.value) (CostThen (setting_of c.args.job.now.inputs.value) c.args.job.now.name.value) see2 c.both.result (cost_need c.args.job.now c.args.given.now c.requires c.graph_in.result c.category_in.result c.both.result c.graph_in.ensures c.category_in.ensures c.both.ensures) _ c.in-Ok.is _ (always_answers (λ costs. costs.of ≡ upper_costs c.in-Ok.graph.now c.in-Ok.categories.now (setting_of c.args.job.now.inputs.value).hardware.cycles) c.costs.result c.unrefused.result (subst (λ xs. IfOk c.costs.result (λ costs. costs.of ≡ upper_costs c.in-Ok.graph.now xs (setting_of c.args.job.now.inputs.value).hardware.cycles)) c.items.ensures priced) c.unrefused.ensures)
