use Rattle.std.proofs.Common.{◌+◌, ◌^◌, None, take, get_or, sym}
use Rattle.std.proofs.lemmas.List.{take_more}
use Rattle.wc_model.specs.declared.flow_system.SystemStep.{SystemStep}
use Rattle.wc_model.specs.Inner.Greatest.{cost_through}
use Rattle.wc_model.proofs.Greatest.{greatest_push, max_below}
use Rattle.wc_model.proofs.walks.greatest.greatest_through.Goals as goal

nowhere : SystemStep
nowhere = record { source = 0; target = None; cost = 0 }

pub loop-step-preserved : goal.loop-step-preserved
unfolding nowhere
loop-step-preserved c =
    let best = c.args.best.now in
    let steps = c.args.steps.now in
    let i = c.loop-step.step-index in
    record {
      so_far = rw (c.greater-greatest.ensures, take_more steps i nowhere c.loop-step-test.true) (greatest_push (cost_through best) (take i steps) (get_or steps i nowhere) c.loop-step.greatest c.through.result (sym c.through.ensures.cost) c.loop-step.invariant.so_far);
      small = λ m low. rw c.greater-greatest.ensures (max_below c.loop-step.greatest c.through.result (m + 2 ^ 64) (c.loop-step.invariant.small m low) (c.through.ensures.small m low));
    }
