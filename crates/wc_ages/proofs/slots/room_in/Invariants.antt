use Rattle.std.proofs.Common.{◌≡◌, take}
use Rattle.wc_ages.specs.Slots.{rank_of}
use Rattle.wc_ages.proofs.slots.room_in.Given as goal

abbrev pub invariant-loop-slot : goal.invariant-loop-slot
invariant-loop-slot l = l.room ≡ rank_of l.ways (take l.slot-index l.slots)
