use Rattle.std.proofs.Common.{◌≡◌, ◌∙◌, Option, Vec, ap, length, subst, sym}
use Rattle.std.specs.Option.{IfSome, option_map}
use Rattle.wc_model.specs.Flow.RowResults.{inner_potentials, split_prices}
use Rattle.wc_simplex.specs.Inner.Prices.{IsKnownAs}
use Rattle.wc_simplex.proofs.PricedLemmas.{ray_is}
use Rattle.wc_simplex.proofs.reading.potentials.Goals as goal

pub merge-requires-clause-inner : goal.merge-requires-clause-inner
merge-requires-clause-inner c =
    ap length c.deref-in-Some.ensures.value ∙ subst (λ o. IfSome o (λ v. length v.items ≡ c.args.system.now.nodes)) c.in-Some.is c.in_ok-inner_potentials.ensures.counted ∙ sym c.requires.passed.counted

pub returns-in_ok-merge-in-Some : goal.returns-in_ok-merge-in-Some
returns-in_ok-merge-in-Some c =
    let s = c.args.system.now in
    let priced = c.in_ok-prices.ensures in
    let known = subst (λ o. IsKnownAs s.nodes (inner_potentials s c.args.scale.now (split_prices s c.args.all.now) c.args.columns.now) (option_map (λ v. v.items) o)) c.in-Some.is
    (c.in_ok-inner_potentials.ensures.inner (split_prices s c.args.all.now) priced) in
    ray_is s c.args.columns.now c.args.scale.now c.args.all.now c.args.passed.now c.in_ok-prices.prices c.deref.result.now c.deref-in-Some.result.now c.in-Some.inner.items _ _ _
    c.requires.passed c.requires.all priced c.deref.ensures.value c.deref-in-Some.ensures.value known (c.new.ensures ∙ c.in_ok-merge-in-Some.ensures) c.new-in-Some.ensures c.new-in-Some-2.ensures
