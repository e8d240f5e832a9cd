use Rattle.std.proofs.Common.{◌≡◌, [], ◌∷◌, sym, ap, subst, ◌∙◌, rules}
use Rattle.std.specs.Prelude.{IfOk}
use Rattle.std.specs.Option.{option_map}
use Rattle.wc_model.specs.Cache.Lines.{line_map}
use Rattle.wc_model.specs.Cache.Ages.{AreMayFlags}
use Rattle.wc_laws.proofs.JoinedLemmas.{both_parts}
use Rattle.wc_works.proofs.PhaseLemmas.{always_answers}
use Rattle.wc_works.proofs.SystemLemmas.{lines_at}
use Rattle.wc_model.specs.Workspace.Edits.{setting_of}
use Rattle.wc_model.specs.Workspace.Feature.{GraphFeature, LinesFeature}
use Rattle.wc_registry.proofs.KindLemmas.{first_there, later_there}
use Rattle.wc_works.proofs.GivenLemmas.{graph_known, there}
use Rattle.wc_works.proofs.NeedLemmas.{MayNeed, MayThen, may_need, see2}
use Rattle.wc_works.proofs.PassingLemmas.{goes_on, passes, value_seen}
use Rattle.wc_works.proofs.may_work.may_for.Goals as goal

pub graph_in-requires : goal.graph_in-requires
graph_in-requires g c = there c.args.job.now c.args.given.now 6 c.requires 1 (first_there 1 (4 ∷ []))

pub lines_in-requires : goal.lines_in-requires
lines_in-requires g c = there c.args.job.now c.args.given.now 6 c.requires 4 (later_there 1 4 (4 ∷ []) (first_there 4 []))

pub returns-in-Err : goal.returns-in-Err
returns-in-Err g c = passes (MayNeed (setting_of c.args.job.now.inputs.value) c.args.job.now.name.value) (MayThen (setting_of c.args.job.now.inputs.value) c.args.job.now.name.value) see2 c.both.result (may_need c.args.job.now c.args.given.now c.requires c.graph_in.result c.lines_in.result c.both.result c.graph_in.ensures c.lines_in.ensures c.both.ensures) c.in-Err.fault c.in-Err.is

pub may-requires-clause-graph : goal.may-requires-clause-graph
may-requires-clause-graph g c κs within =
    let seen_is = value_seen (MayNeed (setting_of c.args.job.now.inputs.value) c.args.job.now.name.value) (MayThen (setting_of c.args.job.now.inputs.value) c.args.job.now.name.value) see2 c.both.result (may_need c.args.job.now c.args.given.now c.requires c.graph_in.result c.lines_in.result c.both.result c.graph_in.ensures c.lines_in.ensures c.both.ensures) _ c.in-Ok.is in
    let parts = both_parts (GraphFeature (setting_of c.args.job.now.inputs.value) c.args.job.now.name.value) (LinesFeature (setting_of c.args.job.now.inputs.value) c.args.job.now.name.value) _ seen_is in
    (graph_known c.args.job.now c.args.given.now 6 c.requires (first_there 1 (4 ∷ [])) c.in-Ok.graph.now parts.0)

pub may-requires-clause-map : goal.may-requires-clause-map
may-requires-clause-map g c κs within =
    let seen_is = value_seen (MayNeed (setting_of c.args.job.now.inputs.value) c.args.job.now.name.value) (MayThen (setting_of c.args.job.now.inputs.value) c.args.job.now.name.value) see2 c.both.result (may_need c.args.job.now c.args.given.now c.requires c.graph_in.result c.lines_in.result c.both.result c.graph_in.ensures c.lines_in.ensures c.both.ensures) _ c.in-Ok.is in
    let parts = both_parts (GraphFeature (setting_of c.args.job.now.inputs.value) c.args.job.now.name.value) (LinesFeature (setting_of c.args.job.now.inputs.value) c.args.job.now.name.value) _ seen_is in
    lines_at (setting_of c.args.job.now.inputs.value) c.args.job.now.name.value c.in-Ok.graph.now parts.0 c.in-Ok.map.now parts.1 ∙ ap (line_map c.in-Ok.graph.now) (sym (let same : option_map (λ a. a.now) c.as_ref-cache.result ≡ (setting_of c.args.job.now.inputs.value).hardware.cache = search rules in same))

pub returns-in-Ok : goal.returns-in-Ok
returns-in-Ok g c = goes_on (MayNeed (setting_of c.args.job.now.inputs.value) c.args.job.now.name.value) (MayThen (setting_of c.args.job.now.inputs.value) c.args.job.now.name.value) see2 c.both.result (may_need c.args.job.now c.args.given.now c.requires c.graph_in.result c.lines_in.result c.both.result c.graph_in.ensures c.lines_in.ensures c.both.ensures) _ c.in-Ok.is _ (always_answers (AreMayFlags c.in-Ok.graph.now (setting_of c.args.job.now.inputs.value).hardware.cache) c.may.result c.unrefused.result (subst (λ o. IfOk c.may.result (AreMayFlags c.in-Ok.graph.now o)) (let same : option_map (λ a. a.now) c.as_ref-cache.result ≡ (setting_of c.args.job.now.inputs.value).hardware.cache = search rules in same) c.may.ensures) c.unrefused.ensures)
