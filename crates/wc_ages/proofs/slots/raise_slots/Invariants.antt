use Rattle.std.proofs.Common.{◌≡◌, ◌<◌, ℕ, false, true, ◌++◌, drop, map, take}
use Rattle.wc_ages.specs.Slots.{raised, rank_of, IsRaising}
use Rattle.wc_ages.proofs.slots.raise_slots.Given as goal

abbrev pub invariant-loop-place : goal.invariant-loop-place
invariant-loop-place l = IsRaising l.ways l.other l.place l.initial.slots l.slots l.changed
