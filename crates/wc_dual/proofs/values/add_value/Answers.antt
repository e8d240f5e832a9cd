use Rattle.std.proofs.Common.{None, subst}
use Rattle.std.proofs.lemmas.Option.{get_or_from_slice_get}
use Rattle.wc_model.specs.Flow.Places.{number_at}
use Rattle.wc_dual.specs.Wide.{IsOut}
use Rattle.wc_dual.specs.Inner.Passes.{IsTerm}
use Rattle.wc_dual.specs.Inner.Values.{value_term}
use Rattle.wc_dual.proofs.values.add_value.Goals as goal

pub returns : goal.returns
returns c = λ t at.
    subst (λ s. IsTerm (IsOut (value_term (number_at c.args.x.now) c.args.place s)) c.args.sum.now (value_term (number_at c.args.x.now) c.args.place s) c.add_cost.result)
    (get_or_from_slice_get c.args.steps.now c.args.place t (record { source = 0; target = None; cost = 0 }) at) c.add_cost.ensures
