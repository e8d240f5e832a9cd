use Rattle.std.proofs.Common.{◌≡◌, ◌≤◌, ◌+◌, [], ◌∷◌, ◌++◌, length, vec_capacity, arith, refl, sym, ap, ap₂, ◌∙◌}
use Rattle.wc_model.specs.declared.entries.Entry.TheVariants.{Pin}
use Rattle.wc_model.specs.Workspace.Edits.{setting_of}
use Rattle.wc_core.specs.Features.{value_of}
use Rattle.wc_core.proofs.CoreLemmas.{core_count, core_inputs}
use Rattle.wc_core.proofs.QuietLemmas.{IsNewSeat, goes_pin, none_at}
use Rattle.wc_core.proofs.shared.Core.pin.Goals as goal

pub invariant_of-self-2 : goal.invariant_of-self-2
invariant_of-self-2 g c =
    let i = c.self.inside in
    let within : length i.history.items + 1 + (i.owed + 23) ≤ vec_capacity c.reserve-2.new.self = omega (arith, c.in_ok-reserve-2.ensures.ok, c.reserve-2.ensures.len, i.history.ok) in
    let entry : c.in_ok-entry.entry ≡ c.args.name.now = c.in_ok-entry.ensures in
    let entries = c.push_reserved.ensures.items ∙ ap₂ (λ l n. l ++ Pin c.args.session n i.count ∷ []) c.reserve-2.ensures.items entry in
    let shared : c.in_ok-shared.shared.value ≡ c.args.name.now = c.in_ok-shared.ensures.ok ∙ c.in_ok-text_of.ensures in
    let seat : IsNewSeat c.args.name.now i.keys.items (record { keys = c.in_ok-keys.keys.items; names = c.in_ok-names.names.items }) = record { keys_are = c.in_ok-keys.ensures ∙ c.as_slice.ensures.value; names_are = c.in_ok-names.ensures.names; counted = c.in_ok-names.ensures.count } in
    let goes = goes_pin g.W.Work.chain g.W.Work.is_feature _ _ _ _ c.push_reserved.new.self.items c.args.session (vec_capacity c.reserve-2.new.self) c.reserve.new.self.spare c.args.name.now c.in_ok-shared.shared.value (setting_of c.in_ok-inputs.inputs.value) c.in_ok-given.given (record { keys = c.in_ok-keys.keys.items; names = c.in_ok-names.names.items }) c.self.view_is c.self.invariant.0 c.requires entries within c.in_ok-reserve.ensures.room seat shared (ap setting_of c.in_ok-inputs.ensures) (none_at c.in_ok-given.given c.in_ok-given.ensures) in
    rw (c.push_reserved.ensures.capacity, c.fill.ensures, c.reserve.ensures.lines) (goes.core, c.self.invariant.1, c.self.invariant.2)

pub returns-clause-goes : goal.returns-clause-goes
returns-clause-goes g c =
    let i = c.self.inside in
    let within : length i.history.items + 1 + (i.owed + 23) ≤ vec_capacity c.reserve-2.new.self = omega (arith, c.in_ok-reserve-2.ensures.ok, c.reserve-2.ensures.len, i.history.ok) in
    let entry : c.in_ok-entry.entry ≡ c.args.name.now = c.in_ok-entry.ensures in
    let entries = c.push_reserved.ensures.items ∙ ap₂ (λ l n. l ++ Pin c.args.session n i.count ∷ []) c.reserve-2.ensures.items entry in
    let shared : c.in_ok-shared.shared.value ≡ c.args.name.now = c.in_ok-shared.ensures.ok ∙ c.in_ok-text_of.ensures in
    let seat : IsNewSeat c.args.name.now i.keys.items (record { keys = c.in_ok-keys.keys.items; names = c.in_ok-names.names.items }) = record { keys_are = c.in_ok-keys.ensures ∙ c.as_slice.ensures.value; names_are = c.in_ok-names.ensures.names; counted = c.in_ok-names.ensures.count } in
    let goes = goes_pin g.W.Work.chain g.W.Work.is_feature _ _ _ _ c.push_reserved.new.self.items c.args.session (vec_capacity c.reserve-2.new.self) c.reserve.new.self.spare c.args.name.now c.in_ok-shared.shared.value (setting_of c.in_ok-inputs.inputs.value) c.in_ok-given.given (record { keys = c.in_ok-keys.keys.items; names = c.in_ok-names.names.items }) c.self.view_is c.self.invariant.0 c.requires entries within c.in_ok-reserve.ensures.room seat shared (ap setting_of c.in_ok-inputs.ensures) (none_at c.in_ok-given.given c.in_ok-given.ensures) in
    goes.advances

pub returns-clause-ok : goal.returns-clause-ok
returns-clause-ok g c =
    let i = c.self.inside in
    let within : length i.history.items + 1 + (i.owed + 23) ≤ vec_capacity c.reserve-2.new.self = omega (arith, c.in_ok-reserve-2.ensures.ok, c.reserve-2.ensures.len, i.history.ok) in
    let entry : c.in_ok-entry.entry ≡ c.args.name.now = c.in_ok-entry.ensures in
    let entries = c.push_reserved.ensures.items ∙ ap₂ (λ l n. l ++ Pin c.args.session n i.count ∷ []) c.reserve-2.ensures.items entry in
    let shared : c.in_ok-shared.shared.value ≡ c.args.name.now = c.in_ok-shared.ensures.ok ∙ c.in_ok-text_of.ensures in
    let seat : IsNewSeat c.args.name.now i.keys.items (record { keys = c.in_ok-keys.keys.items; names = c.in_ok-names.names.items }) = record { keys_are = c.in_ok-keys.ensures ∙ c.as_slice.ensures.value; names_are = c.in_ok-names.ensures.names; counted = c.in_ok-names.ensures.count } in
    let goes = goes_pin g.W.Work.chain g.W.Work.is_feature _ _ _ _ c.push_reserved.new.self.items c.args.session (vec_capacity c.reserve-2.new.self) c.reserve.new.self.spare c.args.name.now c.in_ok-shared.shared.value (setting_of c.in_ok-inputs.inputs.value) c.in_ok-given.given (record { keys = c.in_ok-keys.keys.items; names = c.in_ok-names.names.items }) c.self.view_is c.self.invariant.0 c.requires entries within c.in_ok-reserve.ensures.room seat shared (ap setting_of c.in_ok-inputs.ensures) (none_at c.in_ok-given.given c.in_ok-given.ensures) in
    record {
      session_is = refl;
      name_is = shared;
      here = core_count _ _ _ _ _ _ c.self.view_is c.self.invariant.0;
      inputs_are = ap setting_of c.in_ok-inputs.ensures ∙ core_inputs _ _ _ _ _ _ c.self.view_is c.self.invariant.0;
      nothing = λ kind. ap value_of (none_at c.in_ok-given.given c.in_ok-given.ensures kind);
      quiet = refl;
      entry = entries ∙ ap (λ v. v.history ++ Pin c.args.session c.args.name.now i.count ∷ []) c.self.view_is;
      fits = goes.fits;
    }
