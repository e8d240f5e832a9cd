use Rattle.std.proofs.Common.{◌≡◌, ℕ, ◌∙◌, length, get_or, sym}
use Rattle.std.proofs.lemmas.List.{set-get_or}
use Rattle.wc_ages.specs.declared.slots.Slot.{Slot}
use Rattle.wc_ages.proofs.SlotLemmas.{grows_yes, grows_no}
use Rattle.wc_ages.proofs.slots.grow.Goals as goal
use Rattle.wc_ages.proofs.slots.grow.Goals.{then-slot-limit, else-slot-limit}

pub loop-slot-preserved : goal.loop-slot-preserved
loop-slot-preserved c =
    let nobody : Slot = record { line = 0; age = 0 } in
    let old = c.args.slots.now in
    let now = c.loop-slot.slots in
    let i = c.loop-slot.slot-index in
    elim c.if-slot-limit.branch [
      | then-slot-limit w ↦ w.slots-is ∙ grows_yes c.args.limit old now i nobody c.loop-slot-test.true c.loop-slot.invariant c.loop-slot.auto.slots w.if-slot-limit.true
      | else-slot-limit w ↦ w.slots-is ∙ set-get_or now i nobody ∙ grows_no c.args.limit old now i nobody c.loop-slot-test.true c.loop-slot.invariant c.loop-slot.auto.slots w.if-slot-limit.false
    ]
