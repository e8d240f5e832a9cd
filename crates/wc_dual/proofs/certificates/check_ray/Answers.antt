use Rattle.std.proofs.Common.{pos, ◌<ℤ◌, rules, subst, sym, SFits, ◌∙◌}
use Rattle.std.proofs.lemmas.Int.{to_z-of_z}
use mir.Syntax.{w128}
use Rattle.wc_dual.proofs.CertificateLemmas.{pass_on, ray_below, ray_fair, ray_holds, ray_priced, ray_wide_dual, ray_wide_prices}
use Rattle.wc_dual.proofs.certificates.check_ray.Goals as goal

pub returns-then-not-are_fair : goal.returns-then-not-are_fair
returns-then-not-are_fair c = λ holds. c.if-not-are_fair.ensures (ray_fair c.args.system.now c.args.ray.now c.prices_of_ray-prices.result c.prices_of_ray-prices.ensures holds)

pub returns-in_default : goal.returns-in_default
returns-in_default c =
    pass_on c.check_prices.result c.in_default.not-Yes (ray_priced c.args.system.now c.args.ray.now c.prices_of_ray-prices.result c.prices_of_ray-prices.ensures)
    (ray_wide_prices c.args.system.now c.args.ray.now c.prices_of_ray-prices.result c.prices_of_ray-prices.ensures) c.check_prices.ensures

pub returns-in_default-dual_of : goal.returns-in_default-dual_of
returns-in_default-dual_of c = ray_wide_dual c.args.system.now c.args.ray.now c.prices_of_ray-prices.result c.prices_of_ray-prices.ensures c.in_default-dual_of.ensures

pub returns-then-is_below : goal.returns-then-is_below
returns-then-is_below c =
    let fits : SFits w128 c.in-Some.value = search rules in
    ray_holds c.args.system.now c.args.ray.now c.prices_of_ray-prices.result c.prices_of_ray-prices.ensures c.if-not-are_fair.ensures c.in-Yes.ensures
    (subst (λ z. z <ℤ pos 0) (to_z-of_z w128 c.in-Some.value fits ∙ c.in-Some.ensures) c.if-is_below.ensures)

pub returns-else-is_below : goal.returns-else-is_below
returns-else-is_below c =
    let fits : SFits w128 c.in-Some.value = search rules in
    λ holds. c.if-is_below.ensures (subst (λ z. z <ℤ pos 0) (sym (to_z-of_z w128 c.in-Some.value fits ∙ c.in-Some.ensures))
    (ray_below c.args.system.now c.args.ray.now c.prices_of_ray-prices.result c.prices_of_ray-prices.ensures holds))
