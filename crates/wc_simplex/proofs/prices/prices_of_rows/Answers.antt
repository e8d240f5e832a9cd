use Rattle.std.proofs.Common.{◌+◌, ◌-ℤ◌, ◌++◌, ◌∷◌, ◌∙◌, [], ap, arith, false, get_or, option_and_then, rules, sym}
use Rattle.std.proofs.lemmas.Int.{to_z-of_z}
use mir.Syntax.{w128}
use Rattle.wc_model.specs.Flow.Exact.{exact}
use Rattle.wc_model.specs.Flow.RowResults.{signed}
use Rattle.wc_simplex.proofs.CodeLemmas.{prices_more, prices_stop}
use Rattle.wc_simplex.proofs.prices.prices_of_rows.Goals as goal

pub overflow_add-real : goal.overflow_add-real
overflow_add-real c = record { fits = omega (arith, c.requires.few, c.requires.small, c.loop-place-test.true) }

pub returns-in-None : goal.returns-in-None
returns-in-None c =
    let here = to_z-of_z w128 c.entry.result (search rules) ∙ c.entry.ensures in
    prices_stop c.args.goal.now c.args.real c.args.base.now c.loop-place.prices.items c.args.signs.now c.loop-place.place false _ c.loop-place-test.true c.loop-place.invariant
    (sym (ap (λ x. option_and_then (signed (get_or c.args.signs.now c.loop-place.place false)) (exact (x -ℤ c.args.base.now))) here) ∙ sym c.row_price.ensures ∙ c.in-None.is)

pub loop-place-preserved : goal.loop-place-preserved
loop-place-preserved c =
    let here = to_z-of_z w128 c.entry.result (search rules) ∙ c.entry.ensures in
    prices_more c.args.goal.now c.args.real c.args.base.now c.loop-place.prices.items c.push.new.self.items c.args.signs.now c.loop-place.place false c.in-Some.price _ c.loop-place-test.true c.loop-place.invariant
    (sym (ap (λ x. option_and_then (signed (get_or c.args.signs.now c.loop-place.place false)) (exact (x -ℤ c.args.base.now))) here) ∙ sym c.row_price.ensures ∙ c.in-Some.is)
    (c.in_ok-push-in-Some.ensures.items ∙ ap (λ z. c.loop-place.prices.items ++ z ∷ []) (to_z-of_z w128 c.in-Some.price (search rules)))
