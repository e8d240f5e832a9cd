use Rattle.std.proofs.Common.{[], ◌∷◌}
use Rattle.std.proofs.lemmas.Result.{IfOk-weaker}
use Rattle.wc_model.specs.Cache.Categories.{AreCategories}
use Rattle.wc_laws.proofs.JoinedLemmas.{both_parts}
use Rattle.wc_works.proofs.PhaseLemmas.{always_answers, flags_for}
use Rattle.wc_works.proofs.SystemLemmas.{may_at, must_at}
use Rattle.wc_model.specs.Workspace.Edits.{setting_of}
use Rattle.wc_model.specs.Workspace.Feature.{Both, GraphFeature, LinesFeature, MayFeature, MustFeature}
use Rattle.wc_registry.proofs.KindLemmas.{first_there, later_there}
use Rattle.wc_works.proofs.GivenLemmas.{graph_known, there}
use Rattle.wc_works.proofs.NeedLemmas.{CategoryNeed, CategoryThen, category_need, see4}
use Rattle.wc_works.proofs.PassingLemmas.{goes_on, passes, value_seen}
use Rattle.wc_works.proofs.category_work.category_for.Goals as goal

pub graph_in-requires : goal.graph_in-requires
graph_in-requires c = there c.args.job.now c.args.given.now 7 c.requires 1 (first_there 1 (4 ∷ 5 ∷ 6 ∷ []))

pub lines_in-requires : goal.lines_in-requires
lines_in-requires c = there c.args.job.now c.args.given.now 7 c.requires 4 (later_there 1 4 (4 ∷ 5 ∷ 6 ∷ []) (first_there 4 (5 ∷ 6 ∷ [])))

pub must_in-requires : goal.must_in-requires
must_in-requires c = there c.args.job.now c.args.given.now 7 c.requires 5 (later_there 1 5 (4 ∷ 5 ∷ 6 ∷ []) (later_there 4 5 (5 ∷ 6 ∷ []) (first_there 5 (6 ∷ []))))

pub may_in-requires : goal.may_in-requires
may_in-requires c = there c.args.job.now c.args.given.now 7 c.requires 6 (later_there 1 6 (4 ∷ 5 ∷ 6 ∷ []) (later_there 4 6 (5 ∷ 6 ∷ []) (later_there 5 6 (6 ∷ []) (first_there 6 []))))

pub returns-in-Err : goal.returns-in-Err
returns-in-Err c = passes (CategoryNeed (setting_of c.args.job.now.inputs.value) c.args.job.now.name.value) (CategoryThen (setting_of c.args.job.now.inputs.value) c.args.job.now.name.value) see4 c.both.result (category_need c.args.job.now c.args.given.now c.requires c.graph_in.result c.lines_in.result c.must_in.result c.may_in.result c.both-lined.result c.both-must.result c.both.result c.graph_in.ensures c.lines_in.ensures c.must_in.ensures c.may_in.ensures c.both-lined.ensures c.both-must.ensures c.both.ensures) c.in-Err.fault c.in-Err.is

pub categories_by-requires-clause-graph : goal.categories_by-requires-clause-graph
categories_by-requires-clause-graph c =
    let seen_is = value_seen (CategoryNeed (setting_of c.args.job.now.inputs.value) c.args.job.now.name.value) (CategoryThen (setting_of c.args.job.now.inputs.value) c.args.job.now.name.value) see4 c.both.result (category_need c.args.job.now c.args.given.now c.requires c.graph_in.result c.lines_in.result c.must_in.result c.may_in.result c.both-lined.result c.both-must.result c.both.result c.graph_in.ensures c.lines_in.ensures c.must_in.ensures c.may_in.ensures c.both-lined.ensures c.both-must.ensures c.both.ensures) _ c.in-Ok.is in
    let flagged = both_parts (Both (Both (GraphFeature (setting_of c.args.job.now.inputs.value) c.args.job.now.name.value) (LinesFeature (setting_of c.args.job.now.inputs.value) c.args.job.now.name.value)) (MustFeature (setting_of c.args.job.now.inputs.value) c.args.job.now.name.value)) (MayFeature (setting_of c.args.job.now.inputs.value) c.args.job.now.name.value) _ seen_is in
    let lined = both_parts (Both (GraphFeature (setting_of c.args.job.now.inputs.value) c.args.job.now.name.value) (LinesFeature (setting_of c.args.job.now.inputs.value) c.args.job.now.name.value)) (MustFeature (setting_of c.args.job.now.inputs.value) c.args.job.now.name.value) _ flagged.0 in
    let parts = both_parts (GraphFeature (setting_of c.args.job.now.inputs.value) c.args.job.now.name.value) (LinesFeature (setting_of c.args.job.now.inputs.value) c.args.job.now.name.value) _ lined.0 in
    (graph_known c.args.job.now c.args.given.now 7 c.requires (first_there 1 (4 ∷ 5 ∷ 6 ∷ [])) c.in-Ok.graph.now parts.0)

pub categories_by-requires-clause-flags : goal.categories_by-requires-clause-flags
categories_by-requires-clause-flags c =
    let seen_is = value_seen (CategoryNeed (setting_of c.args.job.now.inputs.value) c.args.job.now.name.value) (CategoryThen (setting_of c.args.job.now.inputs.value) c.args.job.now.name.value) see4 c.both.result (category_need c.args.job.now c.args.given.now c.requires c.graph_in.result c.lines_in.result c.must_in.result c.may_in.result c.both-lined.result c.both-must.result c.both.result c.graph_in.ensures c.lines_in.ensures c.must_in.ensures c.may_in.ensures c.both-lined.ensures c.both-must.ensures c.both.ensures) _ c.in-Ok.is in
    let flagged = both_parts (Both (Both (GraphFeature (setting_of c.args.job.now.inputs.value) c.args.job.now.name.value) (LinesFeature (setting_of c.args.job.now.inputs.value) c.args.job.now.name.value)) (MustFeature (setting_of c.args.job.now.inputs.value) c.args.job.now.name.value)) (MayFeature (setting_of c.args.job.now.inputs.value) c.args.job.now.name.value) _ seen_is in
    let lined = both_parts (Both (GraphFeature (setting_of c.args.job.now.inputs.value) c.args.job.now.name.value) (LinesFeature (setting_of c.args.job.now.inputs.value) c.args.job.now.name.value)) (MustFeature (setting_of c.args.job.now.inputs.value) c.args.job.now.name.value) _ flagged.0 in
    let parts = both_parts (GraphFeature (setting_of c.args.job.now.inputs.value) c.args.job.now.name.value) (LinesFeature (setting_of c.args.job.now.inputs.value) c.args.job.now.name.value) _ lined.0 in
    let is_must = must_at (setting_of c.args.job.now.inputs.value) c.args.job.now.name.value c.in-Ok.graph.now parts.0 _ parts.1 c.in-Ok.must.now lined.1 in
    let is_may = may_at (setting_of c.args.job.now.inputs.value) c.args.job.now.name.value c.in-Ok.graph.now parts.0 _ parts.1 c.in-Ok.may.now flagged.1 in
    flags_for c.in-Ok.graph.now (setting_of c.args.job.now.inputs.value).hardware.cache c.in-Ok.must.now c.in-Ok.may.now is_must is_may

pub returns-in-Ok : goal.returns-in-Ok
returns-in-Ok c =
    let seen_is = value_seen (CategoryNeed (setting_of c.args.job.now.inputs.value) c.args.job.now.name.value) (CategoryThen (setting_of c.args.job.now.inputs.value) c.args.job.now.name.value) see4 c.both.result (category_need c.args.job.now c.args.given.now c.requires c.graph_in.result c.lines_in.result c.must_in.result c.may_in.result c.both-lined.result c.both-must.result c.both.result c.graph_in.ensures c.lines_in.ensures c.must_in.ensures c.may_in.ensures c.both-lined.ensures c.both-must.ensures c.both.ensures) _ c.in-Ok.is in
    let flagged = both_parts (Both (Both (GraphFeature (setting_of c.args.job.now.inputs.value) c.args.job.now.name.value) (LinesFeature (setting_of c.args.job.now.inputs.value) c.args.job.now.name.value)) (MustFeature (setting_of c.args.job.now.inputs.value) c.args.job.now.name.value)) (MayFeature (setting_of c.args.job.now.inputs.value) c.args.job.now.name.value) _ seen_is in
    let lined = both_parts (Both (GraphFeature (setting_of c.args.job.now.inputs.value) c.args.job.now.name.value) (LinesFeature (setting_of c.args.job.now.inputs.value) c.args.job.now.name.value)) (MustFeature (setting_of c.args.job.now.inputs.value) c.args.job.now.name.value) _ flagged.0 in
    let parts = both_parts (GraphFeature (setting_of c.args.job.now.inputs.value) c.args.job.now.name.value) (LinesFeature (setting_of c.args.job.now.inputs.value) c.args.job.now.name.value) _ lined.0 in
    let is_must = must_at (setting_of c.args.job.now.inputs.value) c.args.job.now.name.value c.in-Ok.graph.now parts.0 _ parts.1 c.in-Ok.must.now lined.1 in
    let is_may = may_at (setting_of c.args.job.now.inputs.value) c.args.job.now.name.value c.in-Ok.graph.now parts.0 _ parts.1 c.in-Ok.may.now flagged.1 in
    goes_on (CategoryNeed (setting_of c.args.job.now.inputs.value) c.args.job.now.name.value) (CategoryThen (setting_of c.args.job.now.inputs.value) c.args.job.now.name.value) see4 c.both.result (category_need c.args.job.now c.args.given.now c.requires c.graph_in.result c.lines_in.result c.must_in.result c.may_in.result c.both-lined.result c.both-must.result c.both.result c.graph_in.ensures c.lines_in.ensures c.must_in.ensures c.may_in.ensures c.both-lined.ensures c.both-must.ensures c.both.ensures) _ c.in-Ok.is _ (always_answers (AreCategories c.in-Ok.graph.now (setting_of c.args.job.now.inputs.value).hardware.cache) c.categories_by.result c.unrefused.result (IfOk-weaker c.categories_by.result _ (AreCategories c.in-Ok.graph.now (setting_of c.args.job.now.inputs.value).hardware.cache) (λ v is. (c.in-Ok.must.now, c.in-Ok.may.now, is_must, is_may, is)) c.categories_by.ensures) c.unrefused.ensures)
