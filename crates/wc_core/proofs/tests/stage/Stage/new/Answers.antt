use Rattle.std.proofs.Common.{ℕ, arith}
use Rattle.wc_core.proofs.StageLemmas.{begins}
use Rattle.wc_core.proofs.tests.stage.Stage.new.Goals as goal

pub invariant_of-result : goal.invariant_of-result
invariant_of-result c =
    begins (λ _ _ _ _. Unit {0}) c.args.core c.in_ok-nothing.field-0.items c.in_ok-nothing-2.field-0.items c.in_ok-nothing.ensures.empty (omega (arith, c.in_ok-nothing.ensures.counted, c.requires.sessions))
    c.in_ok-nothing-2.ensures.empty (omega (arith, c.in_ok-nothing-2.ensures.counted, c.requires.sessions)) (λ s least most. c.requires.free s least (omega (arith, most, c.requires.sessions)))
