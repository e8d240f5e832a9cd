use Rattle.std.proofs.Common.{refl, sym, subst}
use Rattle.wc_model.specs.Workspace.Edits.{setting_of, touches}
use Rattle.wc_core.specs.Inner.Touching.{AreTouched}
use Rattle.wc_core.proofs.touching.touched_by.Goals as goal

pub returns-in-Hardware : goal.returns-in-Hardware
returns-in-Hardware c = subst (λ e. AreTouched (λ part. touches part (setting_of c.args.inputs.now) e) c.touched_by_hardware.result) (sym c.in-Hardware.is) (c.touched_by_hardware.ensures (setting_of c.args.inputs.now) refl)
