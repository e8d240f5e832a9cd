use Rattle.std.proofs.Common.{◌<◌, ◌/◌, ◌*ℤ◌, ◌≡◌, ◌∙◌, Some, ap, ap₂, pos, rules, subst, sym}
use Rattle.std.proofs.lemmas.Int.{to_z-of_z}
use mir.Syntax.{w128}
use mir.Val.{of_z, to_z}
use Rattle.wc_model.specs.Flow.Exact.{exact, gcd}
use Rattle.wc_simplex.proofs.CodeLemmas.{multiple_read}
use Rattle.wc_simplex.proofs.ReadingLemmas.{gcd_some}
use Rattle.wc_simplex.proofs.counts.multiple.Goals as goal

pub nonzero_div-part : goal.nonzero_div-part
nonzero_div-part c = subst (λ g. 0 < g) (sym c.common_divisor.ensures) (gcd_some c.args.den c.args.next c.requires.some)

pub returns-clause-common : goal.returns-clause-common
returns-clause-common c =
    let part = to_z-of_z w128 c.signed.result (search rules) ∙ c.signed.ensures ∙ ap (λ g. pos (c.args.den / g)) c.common_divisor.ensures in
    let next = to_z-of_z w128 c.signed-2.result (search rules) ∙ c.signed-2.ensures in
    (multiple_read (c.args.den / gcd c.args.den c.args.next) c.args.next c.in_ok-found.found c.unsigned_abs.result (search rules)
    (sym (ap₂ (λ x y. exact (x *ℤ y)) part next) ∙ sym c.product.ensures ∙ c.in_ok-found.was) c.unsigned_abs.ensures.value).0

pub returns-clause-small : goal.returns-clause-small
returns-clause-small c =
    let part = to_z-of_z w128 c.signed.result (search rules) ∙ c.signed.ensures ∙ ap (λ g. pos (c.args.den / g)) c.common_divisor.ensures in
    let next = to_z-of_z w128 c.signed-2.result (search rules) ∙ c.signed-2.ensures in
    (multiple_read (c.args.den / gcd c.args.den c.args.next) c.args.next c.in_ok-found.found c.unsigned_abs.result (search rules)
    (sym (ap₂ (λ x y. exact (x *ℤ y)) part next) ∙ sym c.product.ensures ∙ c.in_ok-found.was) c.unsigned_abs.ensures.value).1
