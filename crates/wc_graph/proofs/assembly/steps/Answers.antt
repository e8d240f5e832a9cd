use Rattle.std.proofs.Common.{ℕ, List, get_or, ◌∙◌, arith}
use Rattle.wc_model.specs.declared.graphs.Step.{Step as NumberedStep}
use Rattle.wc_graph.specs.declared.frames.Leap.{Leap}
use Rattle.wc_graph.proofs.AssemblyLemmas.{steps_more}
use Rattle.wc_graph.proofs.ReachLemmas.{get_has}
use Rattle.wc_graph.proofs.SpreadLemmas.{at_has}
use Rattle.wc_graph.proofs.assembly.steps.Goals as goal

pub row-own-requires : goal.row-own-requires
row-own-requires c = c.requires.inside (get_or c.args.order.now c.loop-source.source 0) (at_has c.args.order.now c.loop-source.source 0 (omega arith))

pub push_steps-requires : goal.push_steps-requires
push_steps-requires c =
    let leaps : List (List Leap) = c.args.leaps.now in
    let n : ℕ = get_or c.args.order.now c.loop-source.source 0 in
    let v : List Leap = c.row-own.result.now in
    c.requires.targets v (get_has leaps n v c.row-own.ensures)

pub loop-source-preserved : goal.loop-source-preserved
loop-source-preserved c =
    let leaps : List (List Leap) = c.args.leaps.now in
    let order : List ℕ = c.args.order.now in
    let i : ℕ = c.loop-source.source in
    let n : ℕ = get_or order i 0 in
    let v : List Leap = c.row-own.result.now in
    let old : List NumberedStep = c.loop-source.steps.items in
    steps_more leaps c.args.numbers.now order i old c.push_steps.new.steps.items v (omega arith) c.row-own.ensures c.in_ok-push_steps.ensures ∙ c.loop-source.invariant
