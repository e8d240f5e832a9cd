use Rattle.std.proofs.Common.{◌≡◌, length}
use Rattle.wc_ages.proofs.tests.may_after.Given as goal

abbrev pub invariant-loop-line : goal.invariant-loop-line
invariant-loop-line l = record { ways : l.may.ways ≡ 2; room : length l.may.ages ≡ 4 }
