use Rattle.std.proofs.Common.{[], ◌∷◌, IfOk, ap, subst}
use Rattle.wc_base.specs.Troubles.{IfFault}
use Rattle.wc_bounds.proofs.TallyLemmas.{places_of}
use Rattle.wc_laws.proofs.JoinedLemmas.{both_parts}
use Rattle.wc_works.proofs.PhaseLemmas.{bounds_answers}
use Rattle.wc_works.proofs.SystemLemmas.{nest_at}
use Rattle.wc_model.specs.Flow.Bounds.{AreBounds, IsBoundsFault}
use Rattle.wc_model.specs.Workspace.Edits.{Setting, setting_of}
use Rattle.wc_model.specs.Workspace.Feature.{GraphFeature, NestFeature}
use Rattle.wc_model.specs.Workspace.Phases.{stated}
use Rattle.wc_registry.proofs.KindLemmas.{first_there, later_there}
use Rattle.wc_works.proofs.GivenLemmas.{graph_known, there}
use Rattle.wc_works.proofs.NeedLemmas.{BoundsNeed, BoundsThen, bounds_need, see2}
use Rattle.wc_works.proofs.PassingLemmas.{goes_on, passes, value_seen}
use Rattle.wc_works.proofs.bounds_work.bounds_for.Goals as goal

pub graph_in-requires : goal.graph_in-requires
graph_in-requires c = there c.args.job.now c.args.given.now 3 c.requires 1 (first_there 1 (2 ∷ []))

pub nest_in-requires : goal.nest_in-requires
nest_in-requires c = there c.args.job.now c.args.given.now 3 c.requires 2 (later_there 1 2 (2 ∷ []) (first_there 2 []))

pub returns-in-Err : goal.returns-in-Err
returns-in-Err c = passes (BoundsNeed (setting_of c.args.job.now.inputs.value) c.args.job.now.name.value) (BoundsThen (setting_of c.args.job.now.inputs.value) c.args.job.now.name.value) see2 c.both.result (bounds_need c.args.job.now c.args.given.now c.requires c.graph_in.result c.nest_in.result c.both.result c.graph_in.ensures c.nest_in.ensures c.both.ensures) c.in-Err.fault c.in-Err.is

pub bounds-requires : goal.bounds-requires
bounds-requires c =
    let seen_is = value_seen (BoundsNeed (setting_of c.args.job.now.inputs.value) c.args.job.now.name.value) (BoundsThen (setting_of c.args.job.now.inputs.value) c.args.job.now.name.value) see2 c.both.result (bounds_need c.args.job.now c.args.given.now c.requires c.graph_in.result c.nest_in.result c.both.result c.graph_in.ensures c.nest_in.ensures c.both.ensures) _ c.in-Ok.is in
    let parts = both_parts (GraphFeature (setting_of c.args.job.now.inputs.value) c.args.job.now.name.value) (NestFeature (setting_of c.args.job.now.inputs.value) c.args.job.now.name.value) _ seen_is in
    places_of c.in-Ok.graph.now c.in-Ok.nest.now (graph_known c.args.job.now c.args.given.now 3 c.requires (first_there 1 (2 ∷ [])) c.in-Ok.graph.now parts.0) (nest_at (setting_of c.args.job.now.inputs.value) c.args.job.now.name.value c.in-Ok.graph.now parts.0 c.in-Ok.nest.now parts.1)

pub returns-in-Ok : goal.returns-in-Ok
returns-in-Ok c =
    let same = ap setting_of c.deref.ensures in
    goes_on (BoundsNeed (setting_of c.args.job.now.inputs.value) c.args.job.now.name.value) (BoundsThen (setting_of c.args.job.now.inputs.value) c.args.job.now.name.value) see2 c.both.result (bounds_need c.args.job.now c.args.given.now c.requires c.graph_in.result c.nest_in.result c.both.result c.graph_in.ensures c.nest_in.ensures c.both.ensures) _ c.in-Ok.is _ (bounds_answers (setting_of c.args.job.now.inputs.value) c.in-Ok.graph.now c.in-Ok.nest.now c.bounds.result
    (subst (λ (s : Setting). IfOk c.bounds.result (λ b. AreBounds c.in-Ok.graph.now c.in-Ok.nest.now (stated s) b.of)) same c.bounds.ensures.bounds)
    (subst (λ (s : Setting). IfFault c.bounds.result (IsBoundsFault c.in-Ok.graph.now c.in-Ok.nest.now (stated s))) same c.bounds.ensures.fault))
