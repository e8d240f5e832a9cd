use Rattle.std.proofs.Common.{◌≡◌}
use Rattle.wc_ages.proofs.tests.must_after.Given as goal

abbrev pub invariant-loop-line : goal.invariant-loop-line
invariant-loop-line l = l.must.ways ≡ l.ways
