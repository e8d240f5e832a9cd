use Rattle.std.proofs.Common.{ℕ, ◌≡◌, length, map, ap, subst, arith}
use Rattle.wc_model.specs.declared.flow_facts.Fact.{Fact}
use Rattle.wc_bounds.specs.Inner.Tallies.{IsTally}
use Rattle.wc_bounds.proofs.tallies.tally_heads.Goals as goal

pub returns : goal.returns
returns c =
    let all : c.loop-index.index ≡ length c.args.nest.now.heads = omega (arith, c.loop-index.auto.index-end, c.loop-index-test.false, ap length c.items-heads.ensures) in
    subst (λ (n : ℕ). IsTally c.args.graph.now c.args.nest.now (map (λ (f : ℕ × Fact). f.1) c.args.facts.now) n c.loop-index.tally) all c.loop-index.invariant
