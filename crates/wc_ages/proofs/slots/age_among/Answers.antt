use Rattle.std.proofs.Common.{◌≡◌, ℕ, ◌∙◌, ◌==◌, min, if◌then◌else◌, get_or, sym}
use Rattle.wc_ages.specs.declared.slots.Slot.{Slot}
use Rattle.wc_ages.proofs.SlotLemmas.{age_more}
use Rattle.wc_ages.proofs.slots.age_among.Goals as goal

pub loop-slot-preserved : goal.loop-slot-preserved
loop-slot-preserved c = let nobody : Slot = record { line = 0; age = 0 } in age_more c.args.slots.now c.loop-slot.slot-index nobody c.loop-slot.age c.args.line c.age_with-age.result c.loop-slot-test.true c.age_with-age.ensures ∙ c.loop-slot.invariant
