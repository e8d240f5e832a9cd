use Rattle.std.proofs.Common.{◌≡◌, ◌++◌, drop, map, take}
use Rattle.wc_ages.specs.Slots.{older}
use Rattle.wc_ages.proofs.slots.grow.Given as goal

abbrev pub invariant-loop-slot : goal.invariant-loop-slot
invariant-loop-slot l = l.slots ≡ map (older l.limit) (take l.slot-index l.initial.slots) ++ drop l.slot-index l.initial.slots
