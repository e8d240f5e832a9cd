use Rattle.std.proofs.Common.{ℕ}
use Rattle.std.specs.Int.{IsGcd}
use Rattle.wc_base.proofs.divisors.gcd.Given as goal

-- the divisor of what is left is that of both
abbrev pub invariant-loop-small : goal.invariant-loop-small
invariant-loop-small l = (g : ℕ) → IsGcd l.large l.small g → IsGcd l.a l.b g

abbrev pub decreases-loop-small : goal.decreases-loop-small
decreases-loop-small l = l.small
