use Rattle.std.proofs.Common.{◌%◌, sym, subst, ℕ, arith}
use Rattle.std.proofs.lemmas.Nat.Gcd.{IsGcd-from_mod, IsGcd-from_zero}
use Rattle.std.specs.Int.{IsGcd}
use Rattle.wc_base.proofs.divisors.gcd.Goals as goal

pub loop-small-preserved : goal.loop-small-preserved
loop-small-preserved c = λ g is. c.loop-small.invariant g (IsGcd-from_mod c.loop-small.large c.loop-small.small g is)

pub returns-then-small-eq1 : goal.returns-then-small-eq1
returns-then-small-eq1 c =
    let P : ℕ → Type 0 = λ n. IsGcd c.loop-small.large n 1 in
    let one : P 1 = IsGcd-from_mod c.loop-small.large 1 1 (IsGcd-from_zero 1 (c.loop-small.large % 1) (omega arith)) in
    c.loop-small.invariant 1 (subst P (sym c.if-small-eq1.true) one)

pub returns-else-small-eq1 : goal.returns-else-small-eq1
returns-else-small-eq1 c =
    c.loop-small.invariant c.loop-small.large
    (IsGcd-from_zero c.loop-small.large c.loop-small.small (omega (arith, c.loop-small-test.false, c.if-small-eq1.false)))
