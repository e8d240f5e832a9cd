use Rattle.std.proofs.Common.{◌≡◌, ℕ, ◌∙◌, true, false, length, get_or, sym}
use Rattle.wc_ages.proofs.JoinLemmas.{raising_more}
use Rattle.wc_ages.proofs.slots.raise_slots.Goals as goal
use Rattle.wc_ages.proofs.slots.raise_slots.Goals.{then-raise_slot, else-raise_slot}

pub loop-place-preserved : goal.loop-place-preserved
loop-place-preserved c =
    let e = c.raise_slot.ensures in
    elim c.if-raise_slot.branch [
      | then-raise_slot w ↦ raising_more c.args.ways c.args.other.now c.loop-place.place c.args.slots.now c.loop-place.slots c.raise_slot.new.slots c.loop-place.changed true c.if-raise_slot.changed c.loop-place-test.true c.loop-place.auto.slots c.loop-place.invariant e.slots (λ no. e.same (w.if-raise_slot.true ∙ no)) (λ _. e.greater w.if-raise_slot.true) w.changed-is
      | else-raise_slot w ↦ raising_more c.args.ways c.args.other.now c.loop-place.place c.args.slots.now c.loop-place.slots c.raise_slot.new.slots c.loop-place.changed false c.if-raise_slot.changed c.loop-place-test.true c.loop-place.auto.slots c.loop-place.invariant e.slots (λ _. e.same w.if-raise_slot.false) (λ yes. e.greater (w.if-raise_slot.false ∙ yes)) w.changed-is
    ]
