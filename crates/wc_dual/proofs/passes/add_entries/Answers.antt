use Rattle.std.proofs.Common.{get_or, [], inl, inr, ⊎_elim, arith}
use Rattle.std.proofs.lemmas.Option.{slice_get-get_or}
use Rattle.wc_model.specs.declared.flow_system.SystemLoop.{SystemLoop}
use Rattle.wc_model.specs.Flow.Places.{number_at}
use Rattle.wc_dual.specs.Inner.Lines.{entry_term}
use Rattle.wc_dual.proofs.PassLemmas.{pass_all, pass_next, pass_out}
use Rattle.wc_dual.proofs.passes.add_entries.Goals as goal

pub returns-then-not-entry_turn : goal.returns-then-not-entry_turn
returns-then-not-entry_turn c =
    let none : SystemLoop = record { head = 0; bound = 0; back = []; entry = [] } in
    let row : SystemLoop = get_or c.args.loops.now c.loop-place.place none in
    let at = slice_get-get_or c.args.loops.now c.loop-place.place none c.loop-place-test.true in
    let out = pass_out (entry_term (number_at c.args.v.now)) c.args.loops.now c.args.first c.loop-place.place row c.args.sums.now c.loop-place.sums at c.loop-place.invariant in
    ⊎_elim (λ wide. inl (c.loop-place.place, row, at, wide)) (λ cannot. inr (out cannot)) (c.if-not-entry_turn.ensures row at)

pub loop-place-preserved : goal.loop-place-preserved
loop-place-preserved c =
    let none : SystemLoop = record { head = 0; bound = 0; back = []; entry = [] } in
    let row : SystemLoop = get_or c.args.loops.now c.loop-place.place none in
    let at = slice_get-get_or c.args.loops.now c.loop-place.place none c.loop-place-test.true in
    pass_next (entry_term (number_at c.args.v.now)) c.args.loops.now c.args.first c.loop-place.place row c.args.sums.now c.loop-place.sums c.entry_turn.new.sums at c.loop-place.invariant (c.if-not-entry_turn.ensures row at)

pub returns : goal.returns
returns c = pass_all (entry_term (number_at c.args.v.now)) c.args.loops.now c.args.first c.loop-place.place c.args.sums.now c.loop-place.sums (omega arith) c.loop-place.invariant
