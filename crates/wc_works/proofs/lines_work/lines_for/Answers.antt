use Rattle.std.proofs.Common.{◌≡◌, [], subst, rules}
use Rattle.std.specs.Prelude.{IfOk}
use Rattle.std.specs.Option.{option_map}
use Rattle.wc_model.specs.Cache.Lines.{line_map}
use Rattle.wc_works.proofs.PhaseLemmas.{always_answers}
use Rattle.wc_model.specs.Workspace.Edits.{setting_of}
use Rattle.wc_registry.proofs.KindLemmas.{first_there}
use Rattle.wc_works.proofs.GivenLemmas.{there}
use Rattle.wc_works.proofs.NeedLemmas.{LinesNeed, LinesThen, lines_need, see1}
use Rattle.wc_works.proofs.PassingLemmas.{goes_on, passes}
use Rattle.wc_works.proofs.lines_work.lines_for.Goals as goal

pub graph_in-requires : goal.graph_in-requires
graph_in-requires c = there c.args.job.now c.args.given.now 4 c.requires 1 (first_there 1 [])

pub returns-in-Err : goal.returns-in-Err
returns-in-Err c = passes (LinesNeed (setting_of c.args.job.now.inputs.value) c.args.job.now.name.value) (LinesThen (setting_of c.args.job.now.inputs.value) c.args.job.now.name.value) see1 c.graph_in.result (lines_need c.args.job.now c.args.given.now c.requires c.graph_in.result c.graph_in.ensures) c.in-Err.fault c.in-Err.is

pub returns-in-Ok : goal.returns-in-Ok
returns-in-Ok c = goes_on (LinesNeed (setting_of c.args.job.now.inputs.value) c.args.job.now.name.value) (LinesThen (setting_of c.args.job.now.inputs.value) c.args.job.now.name.value) see1 c.graph_in.result (lines_need c.args.job.now c.args.given.now c.requires c.graph_in.result c.graph_in.ensures) _ c.in-Ok.is _ (always_answers (λ map. map ≡ line_map c.in-Ok.graph.now (setting_of c.args.job.now.inputs.value).hardware.cache) c.lines.result c.unrefused.result (subst (λ o. IfOk c.lines.result (λ map. map ≡ line_map c.in-Ok.graph.now o)) (let same : option_map (λ a. a.now) c.as_ref.result ≡ (setting_of c.args.job.now.inputs.value).hardware.cache = search rules in same) c.lines.ensures) c.unrefused.ensures)
