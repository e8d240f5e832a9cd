use Rattle.std.proofs.Common.{◌≡◌, ◌+◌, length, ap, subst, arith}
use Rattle.wc_model.specs.Workspace.Edits.{setting_of, touches}
use Rattle.wc_core.specs.Inner.Touching.{AreTouched}
use Rattle.wc_core.proofs.BeginLemmas.{begun_next}
use Rattle.wc_core.proofs.opening.Opened.add.Goals as goal

pub returns : goal.returns
returns c image edits begun =
    let touched = subst (λ s. AreTouched (λ part. touches part s c.args.edit) c.touched_by-touched.result) (ap setting_of c.deref.ensures) c.touched_by-touched.ensures in
    begun_next c.args.registry.now image edits c.args.edit (c.len.result + 1) _ _ _ _ c.args.self.now.history.items _ c.touched_by-touched.result (omega (arith, c.len.ensures, c.args.self.now.history.ok)) touched c.in_ok-edit_inputs.ensures c.stamp.ensures c.in_ok-push.ensures.items begun
