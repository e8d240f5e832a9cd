use Rattle.std.proofs.Common.{◌≡◌, ◌-ℤ◌, pos, ap, ap₂, rules, refl, ◌∙◌, SFits}
use Rattle.std.proofs.lemmas.Int.{to_z-of_z}
use mir.Syntax.{w128}
use Rattle.std.specs.List.{filter}
use Rattle.wc_model.specs.Flow.Systems.{counts_some}
use Rattle.wc_system.specs.Inner.Terms.{visit_pairs}
use Rattle.wc_system.proofs.TermLemmas.{limit_is, pairs_are}
use Rattle.wc_system.proofs.limits.limit_of.Goals as goal

pub returns : goal.returns
returns c =
    let graph = c.args.graph.now in
    let fits : SFits w128 c.difference.result = search rules in
    let constant = to_z-of_z w128 c.difference.result fits ∙ c.difference.ensures ∙ ap₂ (λ a b. pos a -ℤ pos b) c.constant_of.ensures.constant c.constant_of-2.ensures.constant in
    let pairs = pairs_are graph c.args.left.now c.args.right.now c.in_ok-plus.plus.items c.in_ok-minus.minus.items c.in_ok-plus.ensures.same c.in_ok-minus.ensures.same 0 graph.nodes in
    let plus = c.in_ok-plus.plus.items in
    let minus = c.in_ok-minus.minus.items in
    let here : filter counts_some (visit_pairs c.items-2.result.now c.as_slice.result.now c.as_slice-2.result.now 0 c.items.result.now) ≡ filter counts_some (visit_pairs graph.contexts plus minus 0 graph.nodes) =
    rw (c.as_slice.ensures.value, c.as_slice-2.ensures.value, c.items.ensures, c.items-2.ensures) refl in
    let factors = c.new.ensures ∙ c.in_ok-factors.ensures ∙ here ∙ ap (filter counts_some) pairs in
    limit_is graph c.args.left.now c.args.right.now _ _ constant factors
