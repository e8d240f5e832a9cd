use Rattle.std.proofs.Common.{◌≡◌, drop}
use Rattle.wc_system.specs.Inner.Capped.{capped_total}
use Rattle.wc_system.proofs.ceiling.total.Given as goal

abbrev pub invariant-loop-place : goal.invariant-loop-place
invariant-loop-place l = capped_total l.rounds (drop l.place l.dearest) l.sum (drop l.place l.inside) ≡ capped_total l.rounds l.dearest 0 l.inside
