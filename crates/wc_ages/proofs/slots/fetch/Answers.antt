use Rattle.std.proofs.Common.{◌≡◌, ℕ, ◌∙◌, List, length, map, get_or, set, sym, subst, arith}
use Rattle.wc_ages.specs.declared.slots.Slot.{Slot}
use Rattle.wc_ages.specs.Slots.{AreSlots, age_in, older}
use Rattle.wc_ages.proofs.SlotLemmas.{place_exists, fetched_age, fetched_slots, youngest}
use Rattle.wc_model.specs.Cache.Ages.{aged}
use Rattle.wc_ages.proofs.slots.fetch.Goals as goal

pub place_of-place-requires-clause-there : goal.place_of-place-requires-clause-there
place_of-place-requires-clause-there c = place_exists c.args.ways c.args.slots.now c.args.line c.age_among-age.result c.requires c.age_among-age.ensures

pub returns-then-age-gt0-clause-slots : goal.returns-then-age-gt0-clause-slots
returns-then-age-gt0-clause-slots c =
    let own : Slot = record { line = c.args.line; age = 0 } in
    let place = c.place_of-place.result in
    subst (λ (xs : List Slot). AreSlots c.args.ways (set xs place own)) (sym c.grow.ensures)
    (fetched_slots c.args.ways c.args.slots.now c.args.line c.age_among-age.result place c.requires c.age_among-age.ensures c.place_of-place.ensures.0 c.place_of-place.ensures.1)

pub returns-then-age-gt0-clause-ages : goal.returns-then-age-gt0-clause-ages
returns-then-age-gt0-clause-ages c = λ y.
    let own : Slot = record { line = c.args.line; age = 0 } in
    let place = c.place_of-place.result in
    let ways : ℕ = c.args.ways in
    let slots = c.args.slots.now in
    let line : ℕ = c.args.line in
    subst (λ (n : ℕ). age_in ways (set c.grow.new.slots place own) y ≡ aged n (age_in ways slots) line y) c.age_among-age.ensures
    (subst (λ (xs : List Slot). age_in ways (set xs place own) y ≡ aged c.age_among-age.result (age_in ways slots) line y) (sym c.grow.ensures)
    (fetched_age ways slots line c.age_among-age.result place y c.age_among-age.ensures c.place_of-place.ensures.0 c.place_of-place.ensures.1))
