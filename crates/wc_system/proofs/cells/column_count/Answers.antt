use Rattle.std.proofs.Common.{◌≡◌, ◌<◌, ◌∙◌, arith, length, subst, slice_get, slice_index_or, Some, ℕ, false, if◌then◌else◌}
use Rattle.wc_model.specs.declared.flow_system.SystemStep.{SystemStep}
use Rattle.wc_system.proofs.CountLemmas.{column_next}
use Rattle.wc_system.proofs.cells.column_count.Goals as goal

pub loop-place-preserved : goal.loop-place-preserved
loop-place-preserved c = record {
  few = omega (arith, c.loop-place.invariant.few, c.first_step-count.ensures.few);
  to_come = column_next c.args.system.now c.args.passed.now c.loop-place.place c.loop-place.count c.first_step-count.result c.requires.passed c.requires.sources
      (subst (λ xs. c.loop-place.place < length xs) c.items-steps.ensures c.loop-place-test.true)
      (subst (λ xs. (t : SystemStep) → slice_get xs c.loop-place.place ≡ Some t → c.first_step-count.result ≡ (if slice_index_or c.args.passed.now t.source false then 0 else 1)) c.items-steps.ensures c.first_step-count.ensures.one)
      ∙ c.loop-place.invariant.to_come;
}
