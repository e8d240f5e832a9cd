use Rattle.std.proofs.Common.{◌-◌, ◌<◌, ◌∙◌, List, Option, ℕ, ℤ, ap, ap₂, get_or, length, rules, set, subst, sym, arith}
use Rattle.std.proofs.lemmas.Int.{to_z-of_z}
use mir.Syntax.{w128}
use Rattle.wc_model.specs.Flow.RowResults.{chain_potentials}
use Rattle.wc_model.specs.Flow.Tableaus.{no_step}
use Rattle.wc_simplex.specs.Inner.Prices.{Learns}
use Rattle.wc_simplex.proofs.CodeLemmas.{chain_begin, chain_end, chain_more, chain_stop}
use Rattle.wc_simplex.proofs.potentials.chain.Goals as goal

pub returns-in_err-next-clause-learnt : goal.returns-in_err-next-clause-learnt
returns-in_err-next-clause-learnt c =
    λ known priced.
    subst (λ (x : Option (List (ℕ × ℤ))). Learns c.args.system.now.nodes x c.from_residual.result c.args.inner.now.items c.loop-place.inner.items)
    (sym
    (chain_stop c.args.system.now c.args.scale.now c.args.prices.now c.args.column.now c.loop-place.place _ c.args.inner.now.items c.loop-place.inner.items c.loop-place.invariant c.loop-place-test.true
    c.loop-place.auto.place c.step_potential.result c.step_potential.ensures c.in_err-next.was known priced)) c.from_residual.ensures

pub loop-place-preserved : goal.loop-place-preserved
loop-place-preserved c =
    let s = c.args.system.now in
    let i = get_or c.args.column.now (c.loop-place.place - 1) 0 in
    let there : i < length s.steps = c.requires.column.1 (c.loop-place.place - 1) 0 (omega (arith, c.loop-place-test.true, c.loop-place.auto.place)) in
    let fits = to_z-of_z w128 c.in_ok-next.next (search rules) in
    chain_more s c.args.scale.now c.args.prices.now c.args.column.now c.loop-place.place _ c.args.inner.now.items c.loop-place.inner.items c.loop-place.invariant c.loop-place-test.true
    c.loop-place.auto.place c.step_potential.result _ _ _ c.step_potential.ensures c.in_ok-next.was fits c.requires.chain
    (omega (arith, c.requires.system.sources i no_step there, c.loop-place.invariant.counted, c.requires.inner))
    (ap₂ (λ q z. set c.loop-place.inner.items q z) (ap (λ ss. (get_or ss i no_step).source) c.items-steps.ensures) fits)

pub returns-clause-learnt : goal.returns-clause-learnt
returns-clause-learnt c =
    chain_end c.args.system.now c.args.scale.now c.args.prices.now c.args.column.now c.loop-place.place _ c.args.inner.now.items c.loop-place.inner.items c.loop-place.invariant c.loop-place-test.false
