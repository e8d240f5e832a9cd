use Rattle.std.proofs.Common.{ℕ, get_or, rules, SFits, ◌∙◌}
use Rattle.std.proofs.lemmas.Int.{to_z-of_z}
use Rattle.std.proofs.lemmas.Option.{slice_get-get_or}
use mir.Syntax.{w128}
use Rattle.wc_model.specs.Flow.Places.{number_at}
use Rattle.wc_dual.proofs.PassLemmas.{plain_next, plain_out}
use Rattle.wc_dual.proofs.numbers.sum_of.Goals as goal

pub returns-in_default : goal.returns-in_default
returns-in_default c =
    let n : ℕ = get_or c.args.places.now c.loop-place.place-index 0 in
    let at = slice_get-get_or c.args.places.now c.loop-place.place-index 0 c.loop-place-test.true in
    plain_out (λ _ i. number_at c.args.x.now i) c.args.places.now c.loop-place.place-index n _ at c.loop-place.invariant c.in_default.ensures

pub loop-place-preserved : goal.loop-place-preserved
loop-place-preserved c =
    let n : ℕ = get_or c.args.places.now c.loop-place.place-index 0 in
    let at = slice_get-get_or c.args.places.now c.loop-place.place-index 0 c.loop-place-test.true in
    let fits : SFits w128 c.in-Some.next = search rules in
    to_z-of_z w128 c.in-Some.next fits ∙ plain_next (λ _ i. number_at c.args.x.now i) c.args.places.now c.loop-place.place-index n _ c.in-Some.next at c.loop-place.invariant c.in-Some.ensures.1
