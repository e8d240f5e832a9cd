use Rattle.std.proofs.Common.{[], ◌∷◌, Ok}
use Rattle.wc_laws.proofs.JoinedLemmas.{both_parts}
use Rattle.wc_laws.proofs.TellingLemmas.{solution_of}
use Rattle.wc_works.proofs.SystemLemmas.{solution_holds}
use Rattle.wc_model.specs.Workspace.Edits.{setting_of}
use Rattle.wc_model.specs.Workspace.Feature.{SolutionFeature, SystemFeature}
use Rattle.wc_registry.proofs.KindLemmas.{first_there, later_there}
use Rattle.wc_works.proofs.GivenLemmas.{there}
use Rattle.wc_works.proofs.NeedLemmas.{BoundNeed, BoundThen, bound_need, see2}
use Rattle.wc_works.proofs.PassingLemmas.{goes_on, passes, value_seen}
use Rattle.wc_works.proofs.bound_work.bound_for.Goals as goal

pub system_in-requires : goal.system_in-requires
system_in-requires c = there c.args.job.now c.args.given.now 11 c.requires 9 (first_there 9 (10 ∷ []))

pub solution_in-requires : goal.solution_in-requires
solution_in-requires c = there c.args.job.now c.args.given.now 11 c.requires 10 (later_there 9 10 (10 ∷ []) (first_there 10 []))

pub returns-in-Err : goal.returns-in-Err
returns-in-Err c = passes (BoundNeed (setting_of c.args.job.now.inputs.value) c.args.job.now.name.value) (BoundThen (setting_of c.args.job.now.inputs.value) c.args.job.now.name.value) see2 c.both.result (bound_need c.args.job.now c.args.given.now c.requires c.system_in.result c.solution_in.result c.both.result c.system_in.ensures c.solution_in.ensures c.both.ensures) c.in-Err.fault c.in-Err.is

pub bound_of-requires : goal.bound_of-requires
bound_of-requires c =
    let seen_is = value_seen (BoundNeed (setting_of c.args.job.now.inputs.value) c.args.job.now.name.value) (BoundThen (setting_of c.args.job.now.inputs.value) c.args.job.now.name.value) see2 c.both.result (bound_need c.args.job.now c.args.given.now c.requires c.system_in.result c.solution_in.result c.both.result c.system_in.ensures c.solution_in.ensures c.both.ensures) _ c.in-Ok.is in
    let parts = both_parts (SystemFeature (setting_of c.args.job.now.inputs.value) c.args.job.now.name.value) (SolutionFeature (setting_of c.args.job.now.inputs.value) c.args.job.now.name.value) _ seen_is in
    solution_holds c.in-Ok.system.now c.in-Ok.solution.now (solution_of (setting_of c.args.job.now.inputs.value) c.args.job.now.name.value c.in-Ok.system.now c.in-Ok.solution.now parts.0 parts.1)

pub returns-in-Ok : goal.returns-in-Ok
returns-in-Ok c = goes_on (BoundNeed (setting_of c.args.job.now.inputs.value) c.args.job.now.name.value) (BoundThen (setting_of c.args.job.now.inputs.value) c.args.job.now.name.value) see2 c.both.result (bound_need c.args.job.now c.args.given.now c.requires c.system_in.result c.solution_in.result c.both.result c.system_in.ensures c.solution_in.ensures c.both.ensures) _ c.in-Ok.is (Ok c.bound_of.result) c.bound_of.ensures
