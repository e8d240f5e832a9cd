use Rattle.std.proofs.Common.{◌<◌, ◌≤◌, ltb, ltb-true, ltb-false, subst, arith, rules}
use Rattle.std.proofs.lemmas.List.Sorted.{IsPartitionPoint-from_clause, IsPartitionedBy-ltb}
use Rattle.std.proofs.lemmas.Option.{get_or_from_slice_get, slice_get_within}
use Rattle.wc_model.specs.declared.flow_system.SystemStep.{SystemStep}
use Rattle.wc_dual.proofs.sources.first_from.Goals as goal

pub returns-clause-first : goal.returns-clause-first
returns-clause-first c = λ i t at.
    let parted = IsPartitionedBy-ltb (λ (s : SystemStep). s.source) _ c.args.node c.requires in
    let point = IsPartitionPoint-from_clause (λ (s : SystemStep). ltb s.source c.args.node) _ _ c.partition_point.ensures.partitioned parted (λ a r q k. search rules) in
    let same = get_or_from_slice_get c.args.steps.now i t t at in (
      (λ before. subst (λ (s : SystemStep). s.source < c.args.node) same (ltb-true _ _ (point.0 i t (omega arith) before))),
      (λ after. subst (λ (s : SystemStep). c.args.node ≤ s.source) same (ltb-false _ _ (point.1 i t after (slice_get_within c.args.steps.now i t at)))),
    )
