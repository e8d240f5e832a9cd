use Rattle.std.proofs.Common.{get_or, [], pos, inl, inr, ⊎_elim, ◌∙◌, rules, SFits}
use Rattle.std.proofs.lemmas.Int.{to_z-of_z}
use Rattle.std.proofs.lemmas.Option.{slice_get-get_or}
use mir.Syntax.{w128}
use Rattle.wc_model.specs.declared.flow_system.SystemLimit.{SystemLimit}
use Rattle.wc_model.specs.Flow.Places.{number_at}
use Rattle.wc_dual.specs.Inner.Values.{constant_term}
use Rattle.wc_dual.proofs.PassLemmas.{sum_next, sum_out}
use Rattle.wc_dual.proofs.values.with_constants.Goals as goal

pub returns-in_default : goal.returns-in_default
returns-in_default c =
    let none : SystemLimit = record { constant = pos 0; factors = [] } in
    let row : SystemLimit = get_or c.args.limits.now c.loop-place.place none in
    let at = slice_get-get_or c.args.limits.now c.loop-place.place none c.loop-place-test.true in
    ⊎_elim (λ wide. inl (c.loop-place.place, row, at, wide))
    (λ out. inr (sum_out (constant_term (number_at c.args.w.now)) c.args.limits.now c.args.begin.now c.loop-place.place row _ at c.loop-place.invariant out)) (c.in_default.ensures row at)

pub loop-place-preserved : goal.loop-place-preserved
loop-place-preserved c =
    let none : SystemLimit = record { constant = pos 0; factors = [] } in
    let row : SystemLimit = get_or c.args.limits.now c.loop-place.place none in
    let at = slice_get-get_or c.args.limits.now c.loop-place.place none c.loop-place-test.true in
    let fits : SFits w128 c.in-Some.next = search rules in
    to_z-of_z w128 c.in-Some.next fits ∙ sum_next (constant_term (number_at c.args.w.now)) c.args.limits.now c.args.begin.now c.loop-place.place row _ c.in-Some.next at c.loop-place.invariant (c.in-Some.ensures row at)
