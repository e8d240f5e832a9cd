use Rattle.std.proofs.Common.{get_or, [], inr, arith}
use Rattle.std.proofs.lemmas.Option.{slice_get-get_or}
use Rattle.wc_model.specs.declared.flow_system.SystemLoop.{SystemLoop}
use Rattle.wc_model.specs.Flow.Places.{number_at}
use Rattle.wc_dual.specs.Inner.Lines.{back_term}
use Rattle.wc_dual.proofs.PassLemmas.{pass_all, pass_next, pass_out}
use Rattle.wc_dual.proofs.passes.add_backs.Goals as goal

pub returns-then-not-back_turn : goal.returns-then-not-back_turn
returns-then-not-back_turn c =
    let none : SystemLoop = record { head = 0; bound = 0; back = []; entry = [] } in
    let row : SystemLoop = get_or c.args.loops.now c.loop-place.place none in
    let at = slice_get-get_or c.args.loops.now c.loop-place.place none c.loop-place-test.true in
    let out = pass_out (back_term (number_at c.args.v.now)) c.args.loops.now c.args.first c.loop-place.place row c.args.sums.now c.loop-place.sums at c.loop-place.invariant in
    inr (out (c.if-not-back_turn.ensures row at))

pub loop-place-preserved : goal.loop-place-preserved
loop-place-preserved c =
    let none : SystemLoop = record { head = 0; bound = 0; back = []; entry = [] } in
    let row : SystemLoop = get_or c.args.loops.now c.loop-place.place none in
    let at = slice_get-get_or c.args.loops.now c.loop-place.place none c.loop-place-test.true in
    pass_next (back_term (number_at c.args.v.now)) c.args.loops.now c.args.first c.loop-place.place row c.args.sums.now c.loop-place.sums c.back_turn.new.sums at c.loop-place.invariant (c.if-not-back_turn.ensures row at)

pub returns : goal.returns
returns c = pass_all (back_term (number_at c.args.v.now)) c.args.loops.now c.args.first c.loop-place.place c.args.sums.now c.loop-place.sums (omega arith) c.loop-place.invariant
