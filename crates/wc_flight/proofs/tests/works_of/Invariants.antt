use Rattle.std.proofs.Common.{◌≡◌, All, map, take}
use Rattle.wc_flight.proofs.tests.works_of.Given as goal

abbrev pub invariant-loop-number : goal.invariant-loop-number
invariant-loop-number l = (map (λ w. w.kind) l.works.items ≡ take l.number-index l.numbers) × All (λ w. w.runs ≡ 0) l.works.items
