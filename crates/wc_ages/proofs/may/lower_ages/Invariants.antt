use Rattle.wc_ages.specs.States.{IsLowering}
use Rattle.wc_ages.proofs.may.lower_ages.Given as goal

abbrev pub invariant-loop-place : goal.invariant-loop-place
invariant-loop-place l = IsLowering l.other l.place l.initial.ages.items l.ages.items l.changed
