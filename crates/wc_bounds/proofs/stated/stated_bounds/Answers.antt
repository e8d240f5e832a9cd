use Rattle.std.proofs.Common.{ℕ, ◌≡◌, length, subst, arith}
use Rattle.wc_bounds.specs.Inner.Stated.{IsStated}
use Rattle.wc_bounds.proofs.stated.stated_bounds.Goals as goal

pub returns : goal.returns
returns c =
    let all : c.loop-index.index ≡ length c.args.facts.now = omega (arith, c.loop-index.auto.index-end, c.loop-index-test.false) in
    subst (λ (n : ℕ). IsStated c.args.facts.now n c.loop-index.stated) all c.loop-index.invariant
