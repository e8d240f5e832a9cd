use Rattle.std.proofs.Common.{◌<◌, ◌-◌, ◌^◌, refl, sym, subst}
use mathlib.Core.List.{mem-append_right}
use Rattle.wc_core.specs.Boxes.{IsUsable}
use Rattle.wc_core.specs.Features.{HasRequired}
use Rattle.wc_model.specs.Workspace.Edits.{setting_of}
use Rattle.wc_model.specs.Workspace.Kinds.{eleven_kinds}
use Rattle.wc_core.proofs.processor.BoxDynProcessorSendWork.run.Goals as goal

pub run-requires : goal.run-requires
run-requires g c κs =
    let moved = subst
    (λ p. ((goal.Processor-dyn g p).runs_is p.1 < 2 ^ 64 - 1) × HasRequired eleven_kinds (λ k v. IsUsable k (setting_of c.args.job.now.inputs.value) c.args.job.now.name.value v) ((goal.Processor-dyn g p).kind_is p.1) c.args.given.now)
    (sym c.as_mut.ensures.value.1)
    (c.requires.room, c.requires.given) in
    (refl, λ incl. (tt, ((λ a among. incl a (mem-append_right _ among)), moved)))
