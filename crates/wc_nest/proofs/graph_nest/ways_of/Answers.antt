use Rattle.std.proofs.Common.{ℕ, ◌≡◌, length, subst, arith}
use Rattle.wc_nest.specs.Inner.Nestings.{AreWays}
use Rattle.wc_nest.proofs.graph_nest.ways_of.Goals as goal

pub returns : goal.returns
returns c =
    let all : c.loop-index.index ≡ length c.args.steps.now = omega (arith, c.loop-index.auto.index-end, c.loop-index-test.false) in
    subst (λ (n : ℕ). AreWays c.args.steps.now n c.loop-index.ways.items) all c.loop-index.invariant
