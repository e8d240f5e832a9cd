use Rattle.std.proofs.Common.{◌≡◌, Bool, List, None, Some, false, get_or, subst, sym, ◌∙◌}
use Rattle.std.specs.List.{slice_get}
use Rattle.std.proofs.lemmas.Option.{slice_get-get_or}
use Rattle.wc_model.specs.declared.graphs.Step.{Step}
use Rattle.wc_nest.specs.Inner.Checks.{AreJoined}
use Rattle.wc_nest.proofs.CheckLemmas.{joins_on}
use Rattle.wc_nest.proofs.tests.join_one.Goals as goal

pub returns-then-is_set-clause-joined : goal.returns-then-is_set-clause-joined
returns-then-is_set-clause-joined c = λ start was.
    let steps = c.args.steps.now in
    let step : Step = get_or steps c.args.index (record { source = 0; target = None; taken = false }) in
    let at : slice_get steps c.args.index ≡ Some step = slice_get-get_or steps c.args.index (record { source = 0; target = None; taken = false }) c.requires.inside in
    let from = rw c.deref.ensures.value at c.is_set.ensures in
    subst (λ (flags : List Bool). AreJoined steps start flags) (sym c.set.ensures) (joins_on steps c.args.index c.in-Some.target step c.args.joined.now.items at c.in-Some.is (sym from ∙ c.if-is_set.true) start was)
