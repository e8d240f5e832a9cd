use Rattle.std.proofs.Common.{◌-◌, arith}
use Rattle.std.proofs.lemmas.List.Sums.{sum_by_more_le}
use Rattle.wc_ages.specs.declared.slots.Slot.{Slot}
use Rattle.wc_ages.proofs.MustLemmas.{rank_small}
use Rattle.wc_ages.proofs.slots.room_in.Goals as goal

pub overflow_add-room : goal.overflow_add-room
overflow_add-room c =
    let nobody : Slot = record { line = 0; age = 0 } in
    let more = sum_by_more_le (λ (s : Slot). c.args.ways - s.age) c.args.slots.now c.loop-slot.slot-index nobody c.loop-slot-test.true in
    omega (arith, more, c.loop-slot.invariant, rank_small c.args.ways c.args.slots.now c.requires)
