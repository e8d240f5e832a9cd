use Rattle.std.proofs.Common.{◌≡◌, ℕ, ◌∙◌, set, refl, ap}
use Rattle.std.proofs.lemmas.Bool.{false≢true}
use Rattle.std.proofs.lemmas.List.{get_or_default}
use Rattle.wc_ages.specs.declared.slots.Slot.{Slot}
use Rattle.wc_ages.specs.Slots.{raised}
use Rattle.wc_ages.proofs.JoinLemmas.{raise_same}
use Rattle.wc_ages.proofs.slots.raise_slot.Goals as goal

pub returns-else-slots-place : goal.returns-else-slots-place
returns-else-slots-place c =
    let nobody : Slot = record { line = 0; age = 0 } in
    let slots = c.args.slots.now in
    let place : ℕ = c.args.place in
    record {
      slots = λ d. raise_same c.args.ways c.args.other.now slots place nobody c.raised_age-age.result c.raised_age-age.ensures c.if-slots-place.false
          ∙ ap (λ (s : Slot). set slots place (raised c.args.ways c.args.other.now s)) (get_or_default slots place nobody d c.requires);
      same = λ _. refl;
      greater = λ yes. absurd (false≢true yes);
    }
