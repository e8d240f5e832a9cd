use Rattle.std.proofs.Common.{ℕ, ◌≡◌, None, Some, false, length, get_or, subst, rules, arith}
use Rattle.std.specs.List.{slice_get}
use Rattle.std.proofs.lemmas.Option.{slice_get-get_or}
use Rattle.wc_model.specs.declared.graphs.Step.{Step}
use Rattle.wc_nest.specs.Inner.Checks.{AreOrdered, IsAfter, IsKnown}
use Rattle.wc_nest.proofs.CheckLemmas.{ordered_more}
use Rattle.wc_nest.proofs.tests.are_ordered.Goals as goal

pub loop-index-preserved : goal.loop-index-preserved
loop-index-preserved c =
    let steps = c.args.steps.now in
    let index = c.loop-index.index in
    let step : Step = get_or steps index (record { source = 0; target = None; taken = false }) in
    let at : slice_get steps index ≡ Some step = slice_get-get_or steps index (record { source = 0; target = None; taken = false }) (omega arith) in
    let known : IsKnown c.args.nodes step = search rules in
    let after : IsAfter steps index = search rules in
    ordered_more c.args.nodes steps index step at known after c.loop-index.invariant

pub returns : goal.returns
returns c = λ yes_is.
    let all : c.loop-index.index ≡ length c.args.steps.now = omega (arith, c.loop-index.auto.index-end, c.loop-index-test.false) in
    subst (λ (n : ℕ). AreOrdered c.args.nodes c.args.steps.now n) all c.loop-index.invariant
