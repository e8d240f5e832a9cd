use Rattle.std.proofs.Common.{◌≡◌, drop}
use Rattle.wc_ages.specs.Slots.{age_in}
use Rattle.wc_ages.proofs.slots.age_among.Given as goal

abbrev pub invariant-loop-slot : goal.invariant-loop-slot
invariant-loop-slot l = age_in l.age (drop l.slot-index l.slots) l.line ≡ age_in l.ways l.slots l.line
