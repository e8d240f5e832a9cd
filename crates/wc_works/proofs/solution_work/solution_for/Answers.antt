use Rattle.std.proofs.Common.{[], ◌∷◌}
use Rattle.wc_laws.proofs.JoinedLemmas.{both_parts}
use Rattle.wc_works.proofs.SystemLemmas.{nest_at, system_below, system_fits, system_in}
use Rattle.wc_model.specs.Workspace.Edits.{setting_of}
use Rattle.wc_model.specs.Workspace.Feature.{Both, GraphFeature, NestFeature, SystemFeature}
use Rattle.wc_registry.proofs.KindLemmas.{first_there, later_there}
use Rattle.wc_works.proofs.GivenLemmas.{graph_known, system_known, there}
use Rattle.wc_works.proofs.NeedLemmas.{SolutionNeed, SolutionThen, solution_need, see3}
use Rattle.wc_works.proofs.PassingLemmas.{goes_on, passes, value_seen}
use Rattle.wc_works.proofs.solution_work.solution_for.Goals as goal

pub graph_in-requires : goal.graph_in-requires
graph_in-requires c = there c.args.job.now c.args.given.now 10 c.requires 1 (first_there 1 (2 ∷ 9 ∷ []))

pub nest_in-requires : goal.nest_in-requires
nest_in-requires c = there c.args.job.now c.args.given.now 10 c.requires 2 (later_there 1 2 (2 ∷ 9 ∷ []) (first_there 2 (9 ∷ [])))

pub system_in-requires : goal.system_in-requires
system_in-requires c = there c.args.job.now c.args.given.now 10 c.requires 9 (later_there 1 9 (2 ∷ 9 ∷ []) (later_there 2 9 (9 ∷ []) (first_there 9 [])))

pub returns-in-Err : goal.returns-in-Err
returns-in-Err c = passes (SolutionNeed (setting_of c.args.job.now.inputs.value) c.args.job.now.name.value) (SolutionThen (setting_of c.args.job.now.inputs.value) c.args.job.now.name.value) see3 c.both.result (solution_need c.args.job.now c.args.given.now c.requires c.graph_in.result c.nest_in.result c.system_in.result c.both-nested.result c.both.result c.graph_in.ensures c.nest_in.ensures c.system_in.ensures c.both-nested.ensures c.both.ensures) c.in-Err.fault c.in-Err.is

pub solution_of-requires-clause-graph : goal.solution_of-requires-clause-graph
solution_of-requires-clause-graph c =
    let seen_is = value_seen (SolutionNeed (setting_of c.args.job.now.inputs.value) c.args.job.now.name.value) (SolutionThen (setting_of c.args.job.now.inputs.value) c.args.job.now.name.value) see3 c.both.result (solution_need c.args.job.now c.args.given.now c.requires c.graph_in.result c.nest_in.result c.system_in.result c.both-nested.result c.both.result c.graph_in.ensures c.nest_in.ensures c.system_in.ensures c.both-nested.ensures c.both.ensures) _ c.in-Ok.is in
    let made = both_parts (Both (GraphFeature (setting_of c.args.job.now.inputs.value) c.args.job.now.name.value) (NestFeature (setting_of c.args.job.now.inputs.value) c.args.job.now.name.value)) (SystemFeature (setting_of c.args.job.now.inputs.value) c.args.job.now.name.value) _ seen_is in
    let parts = both_parts (GraphFeature (setting_of c.args.job.now.inputs.value) c.args.job.now.name.value) (NestFeature (setting_of c.args.job.now.inputs.value) c.args.job.now.name.value) _ made.0 in
    (graph_known c.args.job.now c.args.given.now 10 c.requires (first_there 1 (2 ∷ 9 ∷ [])) c.in-Ok.graph.now parts.0)

pub solution_of-requires-clause-nest : goal.solution_of-requires-clause-nest
solution_of-requires-clause-nest c =
    let seen_is = value_seen (SolutionNeed (setting_of c.args.job.now.inputs.value) c.args.job.now.name.value) (SolutionThen (setting_of c.args.job.now.inputs.value) c.args.job.now.name.value) see3 c.both.result (solution_need c.args.job.now c.args.given.now c.requires c.graph_in.result c.nest_in.result c.system_in.result c.both-nested.result c.both.result c.graph_in.ensures c.nest_in.ensures c.system_in.ensures c.both-nested.ensures c.both.ensures) _ c.in-Ok.is in
    let made = both_parts (Both (GraphFeature (setting_of c.args.job.now.inputs.value) c.args.job.now.name.value) (NestFeature (setting_of c.args.job.now.inputs.value) c.args.job.now.name.value)) (SystemFeature (setting_of c.args.job.now.inputs.value) c.args.job.now.name.value) _ seen_is in
    let parts = both_parts (GraphFeature (setting_of c.args.job.now.inputs.value) c.args.job.now.name.value) (NestFeature (setting_of c.args.job.now.inputs.value) c.args.job.now.name.value) _ made.0 in
    nest_at (setting_of c.args.job.now.inputs.value) c.args.job.now.name.value c.in-Ok.graph.now parts.0 c.in-Ok.nest.now parts.1

pub solution_of-requires-clause-system : goal.solution_of-requires-clause-system
solution_of-requires-clause-system c =
    let seen_is = value_seen (SolutionNeed (setting_of c.args.job.now.inputs.value) c.args.job.now.name.value) (SolutionThen (setting_of c.args.job.now.inputs.value) c.args.job.now.name.value) see3 c.both.result (solution_need c.args.job.now c.args.given.now c.requires c.graph_in.result c.nest_in.result c.system_in.result c.both-nested.result c.both.result c.graph_in.ensures c.nest_in.ensures c.system_in.ensures c.both-nested.ensures c.both.ensures) _ c.in-Ok.is in
    let made = both_parts (Both (GraphFeature (setting_of c.args.job.now.inputs.value) c.args.job.now.name.value) (NestFeature (setting_of c.args.job.now.inputs.value) c.args.job.now.name.value)) (SystemFeature (setting_of c.args.job.now.inputs.value) c.args.job.now.name.value) _ seen_is in
    let parts = both_parts (GraphFeature (setting_of c.args.job.now.inputs.value) c.args.job.now.name.value) (NestFeature (setting_of c.args.job.now.inputs.value) c.args.job.now.name.value) _ made.0 in
    system_in (setting_of c.args.job.now.inputs.value) c.args.job.now.name.value c.in-Ok.graph.now parts.0 c.in-Ok.nest.now parts.1 c.in-Ok.system.now made.1

pub solution_of-requires-clause-sound : goal.solution_of-requires-clause-sound
solution_of-requires-clause-sound c =
    let seen_is = value_seen (SolutionNeed (setting_of c.args.job.now.inputs.value) c.args.job.now.name.value) (SolutionThen (setting_of c.args.job.now.inputs.value) c.args.job.now.name.value) see3 c.both.result (solution_need c.args.job.now c.args.given.now c.requires c.graph_in.result c.nest_in.result c.system_in.result c.both-nested.result c.both.result c.graph_in.ensures c.nest_in.ensures c.system_in.ensures c.both-nested.ensures c.both.ensures) _ c.in-Ok.is in
    let made = both_parts (Both (GraphFeature (setting_of c.args.job.now.inputs.value) c.args.job.now.name.value) (NestFeature (setting_of c.args.job.now.inputs.value) c.args.job.now.name.value)) (SystemFeature (setting_of c.args.job.now.inputs.value) c.args.job.now.name.value) _ seen_is in
    system_known c.args.job.now c.args.given.now 10 c.requires (later_there 1 9 (2 ∷ 9 ∷ []) (later_there 2 9 (9 ∷ []) (first_there 9 []))) c.in-Ok.system.now made.1

pub solution_of-requires-clause-below : goal.solution_of-requires-clause-below
solution_of-requires-clause-below c =
    let seen_is = value_seen (SolutionNeed (setting_of c.args.job.now.inputs.value) c.args.job.now.name.value) (SolutionThen (setting_of c.args.job.now.inputs.value) c.args.job.now.name.value) see3 c.both.result (solution_need c.args.job.now c.args.given.now c.requires c.graph_in.result c.nest_in.result c.system_in.result c.both-nested.result c.both.result c.graph_in.ensures c.nest_in.ensures c.system_in.ensures c.both-nested.ensures c.both.ensures) _ c.in-Ok.is in
    let made = both_parts (Both (GraphFeature (setting_of c.args.job.now.inputs.value) c.args.job.now.name.value) (NestFeature (setting_of c.args.job.now.inputs.value) c.args.job.now.name.value)) (SystemFeature (setting_of c.args.job.now.inputs.value) c.args.job.now.name.value) _ seen_is in
    let parts = both_parts (GraphFeature (setting_of c.args.job.now.inputs.value) c.args.job.now.name.value) (NestFeature (setting_of c.args.job.now.inputs.value) c.args.job.now.name.value) _ made.0 in
    system_below (setting_of c.args.job.now.inputs.value) c.args.job.now.name.value c.in-Ok.graph.now parts.0 c.in-Ok.nest.now parts.1 c.in-Ok.system.now made.1

pub solution_of-requires-clause-fits : goal.solution_of-requires-clause-fits
solution_of-requires-clause-fits c =
    let seen_is = value_seen (SolutionNeed (setting_of c.args.job.now.inputs.value) c.args.job.now.name.value) (SolutionThen (setting_of c.args.job.now.inputs.value) c.args.job.now.name.value) see3 c.both.result (solution_need c.args.job.now c.args.given.now c.requires c.graph_in.result c.nest_in.result c.system_in.result c.both-nested.result c.both.result c.graph_in.ensures c.nest_in.ensures c.system_in.ensures c.both-nested.ensures c.both.ensures) _ c.in-Ok.is in
    let made = both_parts (Both (GraphFeature (setting_of c.args.job.now.inputs.value) c.args.job.now.name.value) (NestFeature (setting_of c.args.job.now.inputs.value) c.args.job.now.name.value)) (SystemFeature (setting_of c.args.job.now.inputs.value) c.args.job.now.name.value) _ seen_is in
    let parts = both_parts (GraphFeature (setting_of c.args.job.now.inputs.value) c.args.job.now.name.value) (NestFeature (setting_of c.args.job.now.inputs.value) c.args.job.now.name.value) _ made.0 in
    system_fits (setting_of c.args.job.now.inputs.value) c.args.job.now.name.value c.in-Ok.graph.now parts.0 c.in-Ok.nest.now parts.1 c.in-Ok.system.now made.1

pub returns-in-Ok : goal.returns-in-Ok
returns-in-Ok c = goes_on (SolutionNeed (setting_of c.args.job.now.inputs.value) c.args.job.now.name.value) (SolutionThen (setting_of c.args.job.now.inputs.value) c.args.job.now.name.value) see3 c.both.result (solution_need c.args.job.now c.args.given.now c.requires c.graph_in.result c.nest_in.result c.system_in.result c.both-nested.result c.both.result c.graph_in.ensures c.nest_in.ensures c.system_in.ensures c.both-nested.ensures c.both.ensures) _ c.in-Ok.is _ (c.solution_of.ensures)
