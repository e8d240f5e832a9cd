use Rattle.std.proofs.Common.{◌*ℤ◌, ap, rules, sym, SFits, ◌∙◌}
use Rattle.std.proofs.lemmas.Int.{to_z-of_z}
use mir.Syntax.{w128}
use Rattle.wc_model.specs.Flow.Certificates.{dual_value}
use Rattle.wc_dual.proofs.CertificateLemmas.{den_out, same_prices, value_is, value_out, wide_dual}
use Rattle.wc_dual.proofs.certificates.check_values.Goals as goal

pub returns-in_default : goal.returns-in_default
returns-in_default c = value_out c.args.system.now c.args.solution.now _ _ c.items-steps.ensures c.items-x.ensures c.in_default.ensures

pub returns-then-not-is_same : goal.returns-then-not-is_same
returns-then-not-is_same c =
    let fits : SFits w128 c.in-Some.value = search rules in
    λ equal. c.if-not-is_same.ensures
    (to_z-of_z w128 c.in-Some.value fits ∙ value_is c.args.system.now c.args.solution.now _ _ c.items-steps.ensures c.items-x.ensures c.in-Some.value c.in-Some.ensures ∙ equal.0)

pub returns-in_default-dual_of : goal.returns-in_default-dual_of
returns-in_default-dual_of c = wide_dual c.args.system.now c.args.solution.now c.args.prices.now c.requires.prices c.in_default-dual_of.ensures

pub returns-in_default-times-2 : goal.returns-in_default-times-2
returns-in_default-times-2 c =
    let fits : SFits w128 c.in-Some-dual_of.dual = search rules in
    den_out c.args.system.now c.args.solution.now c.args.prices.now c.requires.prices _ (to_z-of_z w128 c.in-Some-dual_of.dual fits ∙ c.in-Some-dual_of.ensures) c.in_default-times-2.ensures

pub returns-then-is_same : goal.returns-then-is_same
returns-then-is_same c =
    let s = c.args.system.now in
    let value_fits : SFits w128 c.in-Some.value = search rules in
    let dual_fits : SFits w128 c.in-Some-dual_of.dual = search rules in
    let left_fits : SFits w128 c.in-Some-times.left = search rules in
    let right_fits : SFits w128 c.in-Some-times-2.right = search rules in
    let value = value_is s c.args.solution.now _ _ c.items-steps.ensures c.items-x.ensures c.in-Some.value c.in-Some.ensures in
    let dual = to_z-of_z w128 c.in-Some-dual_of.dual dual_fits ∙ c.in-Some-dual_of.ensures ∙ ap (dual_value s) (same_prices s c.args.solution.now c.args.prices.now c.requires.prices) in (
      sym value ∙ sym (to_z-of_z w128 c.in-Some.value value_fits) ∙ c.if-not-is_same.ensures,
      sym c.in-Some-times.ensures.1 ∙ sym (to_z-of_z w128 c.in-Some-times.left left_fits) ∙ c.if-is_same.ensures ∙ to_z-of_z w128 c.in-Some-times-2.right right_fits
          ∙ c.in-Some-times-2.ensures.1 ∙ ap (λ z. c.args.solution.now.den *ℤ z) dual,
    )

pub returns-else-is_same : goal.returns-else-is_same
returns-else-is_same c =
    let s = c.args.system.now in
    let dual_fits : SFits w128 c.in-Some-dual_of.dual = search rules in
    let left_fits : SFits w128 c.in-Some-times.left = search rules in
    let right_fits : SFits w128 c.in-Some-times-2.right = search rules in
    let dual = to_z-of_z w128 c.in-Some-dual_of.dual dual_fits ∙ c.in-Some-dual_of.ensures ∙ ap (dual_value s) (same_prices s c.args.solution.now c.args.prices.now c.requires.prices) in
    λ equal. c.if-is_same.ensures
    (to_z-of_z w128 c.in-Some-times.left left_fits ∙ c.in-Some-times.ensures.1 ∙ equal.1 ∙ sym (ap (λ z. c.args.solution.now.den *ℤ z) dual) ∙ sym c.in-Some-times-2.ensures.1
    ∙ sym (to_z-of_z w128 c.in-Some-times-2.right right_fits))
