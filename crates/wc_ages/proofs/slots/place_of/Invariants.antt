use Rattle.std.proofs.Common.{◌≡◌, ◌<◌, ℕ, false, get_or}
use Rattle.wc_ages.specs.declared.slots.Slot.{Slot}
use Rattle.wc_ages.specs.Slots.{is_place}
use Rattle.wc_ages.proofs.slots.place_of.Given as goal

abbrev pub invariant-loop-index : goal.invariant-loop-index
invariant-loop-index l = (k : ℕ) (d : Slot) → k < l.index → is_place l.ways l.line l.age (get_or l.slots k d) ≡ false
