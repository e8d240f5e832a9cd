use Rattle.std.proofs.Common.{◌≡◌, None, Some, false, get_or}
use Rattle.std.specs.List.{slice_get}
use Rattle.std.proofs.lemmas.Option.{slice_get-get_or}
use Rattle.wc_model.specs.declared.graphs.Step.{Step}
use Rattle.wc_nest.proofs.StartLemmas.{way_push, way_skip}
use Rattle.wc_nest.proofs.graph_nest.add_way.Goals as goal

pub returns-in_ok-push : goal.returns-in_ok-push
returns-in_ok-push c = λ was.
    let steps = c.args.steps.now in
    let step : Step = get_or steps c.args.index (record { source = 0; target = None; taken = false }) in
    let at : slice_get steps c.args.index ≡ Some step = slice_get-get_or steps c.args.index (record { source = 0; target = None; taken = false }) c.requires.inside in
    rw c.in_ok-push.ensures.items (way_push steps c.args.index c.args.ways.now.items step at was c.in-Some.target c.in-Some.is c.requires.sorted)

pub returns-in_default : goal.returns-in_default
returns-in_default c = λ was.
    let steps = c.args.steps.now in
    let step : Step = get_or steps c.args.index (record { source = 0; target = None; taken = false }) in
    let at : slice_get steps c.args.index ≡ Some step = slice_get-get_or steps c.args.index (record { source = 0; target = None; taken = false }) c.requires.inside in
    way_skip steps c.args.index c.args.ways.now.items step at was c.in_default.not-Some
