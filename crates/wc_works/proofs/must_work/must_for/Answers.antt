use Rattle.std.proofs.Common.{◌≡◌, [], ◌∷◌, sym, ap, subst, ◌∙◌, rules}
use Rattle.std.specs.Prelude.{IfOk}
use Rattle.std.specs.Option.{option_map}
use Rattle.wc_model.specs.Cache.Lines.{line_map}
use Rattle.wc_model.specs.Cache.Ages.{AreMustFlags}
use Rattle.wc_laws.proofs.JoinedLemmas.{both_parts}
use Rattle.wc_works.proofs.PhaseLemmas.{always_answers}
use Rattle.wc_works.proofs.SystemLemmas.{lines_at}
use Rattle.wc_model.specs.Workspace.Edits.{setting_of}
use Rattle.wc_model.specs.Workspace.Feature.{GraphFeature, LinesFeature}
use Rattle.wc_registry.proofs.KindLemmas.{first_there, later_there}
use Rattle.wc_works.proofs.GivenLemmas.{graph_known, there}
use Rattle.wc_works.proofs.NeedLemmas.{MustNeed, MustThen, must_need, see2}
use Rattle.wc_works.proofs.PassingLemmas.{goes_on, passes, value_seen}
use Rattle.wc_works.proofs.must_work.must_for.Goals as goal

pub graph_in-requires : goal.graph_in-requires
graph_in-requires g c = there c.args.job.now c.args.given.now 5 c.requires 1 (first_there 1 (4 ∷ []))

pub lines_in-requires : goal.lines_in-requires
lines_in-requires g c = there c.args.job.now c.args.given.now 5 c.requires 4 (later_there 1 4 (4 ∷ []) (first_there 4 []))

pub returns-in-Err : goal.returns-in-Err
returns-in-Err g c = passes (MustNeed (setting_of c.args.job.now.inputs.value) c.args.job.now.name.value) (MustThen (setting_of c.args.job.now.inputs.value) c.args.job.now.name.value) see2 c.both.result (must_need c.args.job.now c.args.given.now c.requires c.graph_in.result c.lines_in.result c.both.result c.graph_in.ensures c.lines_in.ensures c.both.ensures) c.in-Err.fault c.in-Err.is

pub must-requires-clause-graph : goal.must-requires-clause-graph
must-requires-clause-graph g c κs within =
    let seen_is = value_seen (MustNeed (setting_of c.args.job.now.inputs.value) c.args.job.now.name.value) (MustThen (setting_of c.args.job.now.inputs.value) c.args.job.now.name.value) see2 c.both.result (must_need c.args.job.now c.args.given.now c.requires c.graph_in.result c.lines_in.result c.both.result c.graph_in.ensures c.lines_in.ensures c.both.ensures) _ c.in-Ok.is in
    let parts = both_parts (GraphFeature (setting_of c.args.job.now.inputs.value) c.args.job.now.name.value) (LinesFeature (setting_of c.args.job.now.inputs.value) c.args.job.now.name.value) _ seen_is in
    (graph_known c.args.job.now c.args.given.now 5 c.requires (first_there 1 (4 ∷ [])) c.in-Ok.graph.now parts.0)

pub must-requires-clause-map : goal.must-requires-clause-map
must-requires-clause-map g c κs within =
    let seen_is = value_seen (MustNeed (setting_of c.args.job.now.inputs.value) c.args.job.now.name.value) (MustThen (setting_of c.args.job.now.inputs.value) c.args.job.now.name.value) see2 c.both.result (must_need c.args.job.now c.args.given.now c.requires c.graph_in.result c.lines_in.result c.both.result c.graph_in.ensures c.lines_in.ensures c.both.ensures) _ c.in-Ok.is in
    let parts = both_parts (GraphFeature (setting_of c.args.job.now.inputs.value) c.args.job.now.name.value) (LinesFeature (setting_of c.args.job.now.inputs.value) c.args.job.now.name.value) _ seen_is in
    lines_at (setting_of c.args.job.now.inputs.value) c.args.job.now.name.value c.in-Ok.graph.now parts.0 c.in-Ok.map.now parts.1 ∙ ap (line_map c.in-Ok.graph.now) (sym (let same : option_map (λ a. a.now) c.as_ref-cache.result ≡ (setting_of c.args.job.now.inputs.value).hardware.cache = search rules in same))

pub returns-in-Ok : goal.returns-in-Ok
returns-in-Ok g c = goes_on (MustNeed (setting_of c.args.job.now.inputs.value) c.args.job.now.name.value) (MustThen (setting_of c.args.job.now.inputs.value) c.args.job.now.name.value) see2 c.both.result (must_need c.args.job.now c.args.given.now c.requires c.graph_in.result c.lines_in.result c.both.result c.graph_in.ensures c.lines_in.ensures c.both.ensures) _ c.in-Ok.is _ (always_answers (AreMustFlags c.in-Ok.graph.now (setting_of c.args.job.now.inputs.value).hardware.cache) c.must.result c.unrefused.result (subst (λ o. IfOk c.must.result (AreMustFlags c.in-Ok.graph.now o)) (let same : option_map (λ a. a.now) c.as_ref-cache.result ≡ (setting_of c.args.job.now.inputs.value).hardware.cache = search rules in same) c.must.ensures) c.unrefused.ensures)
