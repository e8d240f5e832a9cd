use Rattle.std.proofs.Common.{[]}
use Rattle.wc_works.proofs.PhaseLemmas.{nest_answers}
use Rattle.wc_model.specs.Workspace.Edits.{setting_of}
use Rattle.wc_registry.proofs.KindLemmas.{first_there}
use Rattle.wc_works.proofs.GivenLemmas.{graph_known, there}
use Rattle.wc_works.proofs.NeedLemmas.{NestNeed, NestThen, nest_need, see1}
use Rattle.wc_works.proofs.PassingLemmas.{goes_on, passes, value_seen}
use Rattle.wc_works.proofs.nest_work.nest_for.Goals as goal

pub graph_in-requires : goal.graph_in-requires
graph_in-requires c = there c.args.job.now c.args.given.now 2 c.requires 1 (first_there 1 [])

pub returns-in-Err : goal.returns-in-Err
returns-in-Err c = passes (NestNeed (setting_of c.args.job.now.inputs.value) c.args.job.now.name.value) (NestThen (setting_of c.args.job.now.inputs.value) c.args.job.now.name.value) see1 c.graph_in.result (nest_need c.args.job.now c.args.given.now c.requires c.graph_in.result c.graph_in.ensures) c.in-Err.fault c.in-Err.is

pub nest-requires : goal.nest-requires
nest-requires c =
    let seen_is = value_seen (NestNeed (setting_of c.args.job.now.inputs.value) c.args.job.now.name.value) (NestThen (setting_of c.args.job.now.inputs.value) c.args.job.now.name.value) see1 c.graph_in.result (nest_need c.args.job.now c.args.given.now c.requires c.graph_in.result c.graph_in.ensures) _ c.in-Ok.is in
    (graph_known c.args.job.now c.args.given.now 2 c.requires (first_there 1 []) c.in-Ok.graph.now seen_is)

pub returns-in-Ok : goal.returns-in-Ok
returns-in-Ok c = goes_on (NestNeed (setting_of c.args.job.now.inputs.value) c.args.job.now.name.value) (NestThen (setting_of c.args.job.now.inputs.value) c.args.job.now.name.value) see1 c.graph_in.result (nest_need c.args.job.now c.args.given.now c.requires c.graph_in.result c.graph_in.ensures) _ c.in-Ok.is _ (nest_answers c.in-Ok.graph.now c.nest.result c.nest.ensures.nest c.nest.ensures.fault)
