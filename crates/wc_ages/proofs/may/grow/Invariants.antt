use Rattle.std.proofs.Common.{◌≡◌, ◌++◌, drop, map, take}
use Rattle.wc_ages.specs.AgeLaws.{grown}
use Rattle.wc_ages.proofs.may.grow.Given as goal

abbrev pub invariant-loop-age : goal.invariant-loop-age
invariant-loop-age l = l.age-items ≡ map (grown l.limit) (take l.age-index l.fn.ages.items) ++ drop l.age-index l.fn.ages.items
