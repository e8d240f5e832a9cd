use Rattle.std.proofs.Common.{◌<◌, get_or, length, None, rules, SFits, ◌∙◌, arith}
use Rattle.std.proofs.lemmas.Int.{to_z-of_z}
use Rattle.std.proofs.lemmas.Option.{slice_get-get_or}
use mir.Syntax.{w128}
use Rattle.wc_model.specs.declared.flow_system.SystemStep.{SystemStep}
use Rattle.wc_model.specs.Flow.Places.{number_at}
use Rattle.wc_dual.specs.Inner.Sources.{leaving}
use Rattle.wc_dual.proofs.PassLemmas.{plain_next, plain_out}
use Rattle.wc_dual.proofs.SourceLemmas.{visits_end, visits_start}
use Rattle.wc_dual.proofs.sources.visits_of.Goals as goal

pub loop-place-init : goal.loop-place-init
loop-place-init c = visits_start c.args.steps.now (number_at c.args.x.now) c.args.node c.steps_of-places.result c.steps_of-places.ensures.all

pub returns-in_default : goal.returns-in_default
returns-in_default c =
    let none : SystemStep = record { source = 0; target = None; cost = 0 } in
    let row : SystemStep = get_or c.args.steps.now c.loop-place.place none in
    let within : c.loop-place.place < length c.args.steps.now = omega (arith, c.steps_of-places.ensures.inside) in
    let at = slice_get-get_or c.args.steps.now c.loop-place.place none within in
    plain_out (leaving (number_at c.args.x.now) c.args.node) c.args.steps.now c.loop-place.place row _ at c.loop-place.invariant (c.in_default.ensures row at)

pub loop-place-preserved : goal.loop-place-preserved
loop-place-preserved c =
    let none : SystemStep = record { source = 0; target = None; cost = 0 } in
    let row : SystemStep = get_or c.args.steps.now c.loop-place.place none in
    let within : c.loop-place.place < length c.args.steps.now = omega (arith, c.steps_of-places.ensures.inside) in
    let at = slice_get-get_or c.args.steps.now c.loop-place.place none within in
    let fits : SFits w128 c.in-Some.next = search rules in
    to_z-of_z w128 c.in-Some.next fits ∙ plain_next (leaving (number_at c.args.x.now) c.args.node) c.args.steps.now c.loop-place.place row _ c.in-Some.next at c.loop-place.invariant (c.in-Some.ensures row at)

pub returns : goal.returns
returns c =
    visits_end c.args.steps.now (number_at c.args.x.now) c.args.node c.steps_of-places.result c.steps_of-places.ensures.all c.loop-place.place _ (omega arith) c.loop-place.invariant
