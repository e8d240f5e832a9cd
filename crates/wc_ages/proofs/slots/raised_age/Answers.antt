use Rattle.std.proofs.Common.{◌≡◌, ℕ, ◌≤◌, ◌∙◌, Some, length, get_or, max, sym, ap, subst, arith}
use Rattle.wc_ages.specs.declared.slots.Slot.{Slot}
use Rattle.wc_ages.proofs.SlotLemmas.{age_most, age_at}
use Rattle.wc_ages.proofs.slots.raised_age.Goals as goal

pub returns-then-slot-ways : goal.returns-then-slot-ways
returns-then-slot-ways c = omega (arith, age_most c.args.ways c.args.other.now c.args.slot.now.line)

pub returns : goal.returns
returns c =
    let nobody : Slot = record { line = 0; age = 0 } in
    let there = c.in-Some.ensures.lookup.3 in
    let is : c.in-Some.there.now ≡ get_or c.args.other.now c.args.place nobody = there.1 nobody in
    let line : (get_or c.args.other.now c.args.place nobody).line ≡ c.args.slot.now.line = sym (ap (λ (s : Slot). s.line) is) ∙ c.if-there-slot.true in
    omega (arith, age_at c.args.ways c.args.other.now c.args.place nobody c.args.slot.now.line there.0 line, ap (λ (s : Slot). s.age) is)
