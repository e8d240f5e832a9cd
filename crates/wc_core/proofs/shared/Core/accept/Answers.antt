use Rattle.std.proofs.Common.{◌≡◌, ◌≤◌, ◌+◌, [], ◌∷◌, ◌++◌, length, vec_capacity, arith, refl, ap, subst, ◌∙◌}
use Rattle.wc_model.specs.declared.entries.Entry.TheVariants.{Edit as EditEntry}
use Rattle.wc_model.specs.Workspace.Closures.{closure}
use Rattle.wc_model.specs.Workspace.Edits.{AgreeOnAll, setting_of, touches}
use Rattle.wc_core.specs.Inner.Touching.{AreTouched}
use Rattle.wc_core.proofs.AcceptLemmas.{goes_accept, more_spare}
use Rattle.wc_core.proofs.shared.Core.accept.Goals as goal

pub invariant_of-self-2 : goal.invariant_of-self-2
invariant_of-self-2 g c =
    let i = c.self.inside in
    let within : length i.history.items + 1 + i.owed ≤ vec_capacity c.reserve.new.self = omega (arith, c.in_ok-reserve.ensures.ok, c.reserve.ensures.len, i.history.ok) in
    let entries = c.push_reserved.ensures.items ∙ ap (λ l. l ++ EditEntry c.args.session (i.count + 1) c.args.edit ∷ []) c.reserve.ensures.items in
    let touched = subst (λ s. AreTouched (λ part. touches part s c.args.edit) c.touched_by-touched.result) (ap setting_of c.deref.ensures) c.touched_by-touched.ensures in
    let goes = goes_accept g.W.Work.chain g.W.Work.is_feature _ _ _ _ c.push_reserved.new.self.items c.args.session (vec_capacity c.reserve.new.self) c.args.edit c.touched_by-touched.result (setting_of c.edit_inputs.new.inputs.value) c.stamp.new.keys.items c.cut.new.self.lines (λ k a b name v agree f. g.met.W.Work.stable k a b name v (subst (λ ds. AgreeOnAll a b (closure ds k)) c.self.invariant.1 agree) f) c.self.view_is c.self.invariant.0 c.requires.free c.requires.allowed entries within refl touched c.in_ok-edit_inputs.ensures c.stamp.ensures c.cut.ensures.lines in
    rw c.push_reserved.ensures.capacity (more_spare _ _ _ _ _ c.cut.new.self.spare goes.core c.cut.ensures.spare, c.self.invariant.1, c.self.invariant.2)

pub returns-clause-goes : goal.returns-clause-goes
returns-clause-goes g c =
    let i = c.self.inside in
    let within : length i.history.items + 1 + i.owed ≤ vec_capacity c.reserve.new.self = omega (arith, c.in_ok-reserve.ensures.ok, c.reserve.ensures.len, i.history.ok) in
    let entries = c.push_reserved.ensures.items ∙ ap (λ l. l ++ EditEntry c.args.session (i.count + 1) c.args.edit ∷ []) c.reserve.ensures.items in
    let touched = subst (λ s. AreTouched (λ part. touches part s c.args.edit) c.touched_by-touched.result) (ap setting_of c.deref.ensures) c.touched_by-touched.ensures in
    let goes = goes_accept g.W.Work.chain g.W.Work.is_feature _ _ _ _ c.push_reserved.new.self.items c.args.session (vec_capacity c.reserve.new.self) c.args.edit c.touched_by-touched.result (setting_of c.edit_inputs.new.inputs.value) c.stamp.new.keys.items c.cut.new.self.lines (λ k a b name v agree f. g.met.W.Work.stable k a b name v (subst (λ ds. AgreeOnAll a b (closure ds k)) c.self.invariant.1 agree) f) c.self.view_is c.self.invariant.0 c.requires.free c.requires.allowed entries within refl touched c.in_ok-edit_inputs.ensures c.stamp.ensures c.cut.ensures.lines in
    goes.advances

pub returns-clause-free : goal.returns-clause-free
returns-clause-free g c =
    let i = c.self.inside in
    let within : length i.history.items + 1 + i.owed ≤ vec_capacity c.reserve.new.self = omega (arith, c.in_ok-reserve.ensures.ok, c.reserve.ensures.len, i.history.ok) in
    let entries = c.push_reserved.ensures.items ∙ ap (λ l. l ++ EditEntry c.args.session (i.count + 1) c.args.edit ∷ []) c.reserve.ensures.items in
    let touched = subst (λ s. AreTouched (λ part. touches part s c.args.edit) c.touched_by-touched.result) (ap setting_of c.deref.ensures) c.touched_by-touched.ensures in
    let goes = goes_accept g.W.Work.chain g.W.Work.is_feature _ _ _ _ c.push_reserved.new.self.items c.args.session (vec_capacity c.reserve.new.self) c.args.edit c.touched_by-touched.result (setting_of c.edit_inputs.new.inputs.value) c.stamp.new.keys.items c.cut.new.self.lines (λ k a b name v agree f. g.met.W.Work.stable k a b name v (subst (λ ds. AgreeOnAll a b (closure ds k)) c.self.invariant.1 agree) f) c.self.view_is c.self.invariant.0 c.requires.free c.requires.allowed entries within refl touched c.in_ok-edit_inputs.ensures c.stamp.ensures c.cut.ensures.lines in
    goes.free
