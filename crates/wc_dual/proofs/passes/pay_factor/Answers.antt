use Rattle.std.proofs.Common.{◌<◌, get_or, length, None, arith}
use Rattle.std.proofs.lemmas.Option.{slice_get-get_or}
use Rattle.wc_model.specs.declared.flow_system.SystemStep.{SystemStep}
use Rattle.wc_dual.proofs.SourceLemmas.{pay_end, pay_next, pay_out, pay_start}
use Rattle.wc_dual.proofs.passes.pay_factor.Goals as goal

pub loop-place-init : goal.loop-place-init
loop-place-init c = pay_start c.args.steps.now c.args.factor.now c.args.price.now c.args.first c.steps_of-places.result c.steps_of-places.ensures.all c.args.sums.now

pub returns-then-not-pay_place : goal.returns-then-not-pay_place
returns-then-not-pay_place c =
    let none : SystemStep = record { source = 0; target = None; cost = 0 } in
    let t : SystemStep = get_or c.args.steps.now c.loop-place.place none in
    let within : c.loop-place.place < length c.args.steps.now = omega (arith, c.steps_of-places.ensures.inside) in
    let at = slice_get-get_or c.args.steps.now c.loop-place.place none within in
    pay_out c.args.steps.now c.args.factor.now c.args.price.now c.args.first c.steps_of-places.result c.steps_of-places.ensures.all c.loop-place.place t c.args.sums.now c.loop-place.sums at
    c.loop-place.invariant (c.if-not-pay_place.ensures t at)

pub loop-place-preserved : goal.loop-place-preserved
loop-place-preserved c =
    let none : SystemStep = record { source = 0; target = None; cost = 0 } in
    let t : SystemStep = get_or c.args.steps.now c.loop-place.place none in
    let within : c.loop-place.place < length c.args.steps.now = omega (arith, c.steps_of-places.ensures.inside) in
    let at = slice_get-get_or c.args.steps.now c.loop-place.place none within in
    pay_next c.args.steps.now c.args.factor.now c.args.price.now c.args.first c.steps_of-places.result c.steps_of-places.ensures.all c.loop-place.place t c.args.sums.now c.loop-place.sums
    c.pay_place.new.sums at c.loop-place.invariant (c.if-not-pay_place.ensures t at)

pub returns : goal.returns
returns c =
    pay_end c.args.steps.now c.args.factor.now c.args.price.now c.args.first c.steps_of-places.result c.steps_of-places.ensures.all c.loop-place.place c.args.sums.now c.loop-place.sums
    (omega arith) c.loop-place.invariant
