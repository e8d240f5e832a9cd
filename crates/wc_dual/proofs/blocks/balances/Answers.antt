use Rattle.std.proofs.Common.{get_or, None, ◌∙◌}
use Rattle.std.proofs.lemmas.Option.{slice_get-get_or}
use Rattle.wc_model.specs.declared.flow_system.SystemStep.{SystemStep}
use Rattle.wc_model.specs.Flow.Places.{number_at}
use Rattle.wc_dual.proofs.BlockLemmas.{balances_next, balances_out}
use Rattle.wc_dual.proofs.blocks.balances.Goals as goal

pub returns-then-not-balance_step-clause-sums : goal.returns-then-not-balance_step-clause-sums
returns-then-not-balance_step-clause-sums c =
    let none : SystemStep = record { source = 0; target = None; cost = 0 } in
    let t : SystemStep = get_or c.args.steps.now c.loop-place.place none in
    let at = slice_get-get_or c.args.steps.now c.loop-place.place none c.loop-place-test.true in
    balances_out c.args.steps.now (number_at c.args.x.now) c.args.first c.loop-place.place _ t c.loop-place.sums at c.loop-place.invariant.kept c.loop-place.invariant.so_far
    (c.if-not-balance_step.ensures t at)

pub loop-place-preserved : goal.loop-place-preserved
loop-place-preserved c =
    let none : SystemStep = record { source = 0; target = None; cost = 0 } in
    let t : SystemStep = get_or c.args.steps.now c.loop-place.place none in
    let at = slice_get-get_or c.args.steps.now c.loop-place.place none c.loop-place-test.true in
    let turn = c.if-not-balance_step.ensures t at in
    record {
      kept = turn.0 ∙ c.loop-place.invariant.kept;
      so_far = balances_next c.args.steps.now (number_at c.args.x.now) c.args.first c.loop-place.place t c.loop-place.sums c.balance_step.new.sums at c.loop-place.invariant.so_far turn;
    }
