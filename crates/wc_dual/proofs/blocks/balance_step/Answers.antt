use Rattle.std.proofs.Common.{None, subst}
use Rattle.std.proofs.lemmas.Option.{get_or_from_slice_get}
use Rattle.wc_model.specs.Flow.Places.{number_at}
use Rattle.wc_dual.specs.Inner.Blocks.{IsTurn, balance_of}
use Rattle.wc_dual.proofs.blocks.balance_step.Goals as goal

pub returns : goal.returns
returns c = λ t at.
    subst (λ s. IsTurn c.args.first (balance_of (number_at c.args.x.now c.args.place) s) c.args.sums.now c.put_step.new.sums c.put_step.result)
    (get_or_from_slice_get c.args.steps.now c.args.place t (record { source = 0; target = None; cost = 0 }) at) c.put_step.ensures
