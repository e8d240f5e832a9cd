use Rattle.std.proofs.Common.{◌≡◌, Bool, List, None, Some, false, get_or, subst, sym}
use Rattle.std.specs.List.{slice_get}
use Rattle.std.proofs.lemmas.Option.{slice_get-get_or}
use Rattle.wc_model.specs.declared.graphs.Step.{Step}
use Rattle.wc_nest.specs.Inner.Checks.{AreEnding}
use Rattle.wc_nest.proofs.CheckLemmas.{ends_on}
use Rattle.wc_nest.proofs.tests.end_one.Goals as goal

pub returns-then-is_ending-clause-ending : goal.returns-then-is_ending-clause-ending
returns-then-is_ending-clause-ending c = λ was.
    let steps = c.args.steps.now in
    let step : Step = get_or steps c.args.index (record { source = 0; target = None; taken = false }) in
    let at : slice_get steps c.args.index ≡ Some step = slice_get-get_or steps c.args.index (record { source = 0; target = None; taken = false }) c.requires.inside in
    let to = rw c.deref.ensures.value at c.is_ending.ensures in
    subst (λ (flags : List Bool). AreEnding steps flags) (sym c.set.ensures) (ends_on steps c.args.index step c.args.ending.now.items at (to c.if-is_ending.true) was)
