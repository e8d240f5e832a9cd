use Rattle.std.proofs.Common.{get_or, [], pos, inl, inr, ⊎_elim, arith}
use Rattle.std.proofs.lemmas.Option.{slice_get-get_or}
use Rattle.wc_model.specs.declared.flow_system.SystemLimit.{SystemLimit}
use Rattle.wc_model.specs.Flow.Places.{number_at}
use Rattle.wc_dual.specs.Inner.Lines.{limit_term}
use Rattle.wc_dual.proofs.PassLemmas.{pass_all, pass_next, pass_out}
use Rattle.wc_dual.proofs.passes.add_limits.Goals as goal

pub returns-then-not-limit_turn : goal.returns-then-not-limit_turn
returns-then-not-limit_turn c =
    let none : SystemLimit = record { constant = pos 0; factors = [] } in
    let row : SystemLimit = get_or c.args.limits.now c.loop-place.place none in
    let at = slice_get-get_or c.args.limits.now c.loop-place.place none c.loop-place-test.true in
    let out = pass_out (limit_term c.args.steps.now (number_at c.args.w.now)) c.args.limits.now c.args.first c.loop-place.place row c.args.sums.now c.loop-place.sums at c.loop-place.invariant in
    ⊎_elim (λ wide. inl (c.loop-place.place, row, at, wide)) (λ cannot. inr (out cannot)) (c.if-not-limit_turn.ensures row at)

pub loop-place-preserved : goal.loop-place-preserved
loop-place-preserved c =
    let none : SystemLimit = record { constant = pos 0; factors = [] } in
    let row : SystemLimit = get_or c.args.limits.now c.loop-place.place none in
    let at = slice_get-get_or c.args.limits.now c.loop-place.place none c.loop-place-test.true in
    pass_next (limit_term c.args.steps.now (number_at c.args.w.now)) c.args.limits.now c.args.first c.loop-place.place row c.args.sums.now c.loop-place.sums c.limit_turn.new.sums at c.loop-place.invariant (c.if-not-limit_turn.ensures row at)

pub returns : goal.returns
returns c = pass_all (limit_term c.args.steps.now (number_at c.args.w.now)) c.args.limits.now c.args.first c.loop-place.place c.args.sums.now c.loop-place.sums (omega arith) c.loop-place.invariant
