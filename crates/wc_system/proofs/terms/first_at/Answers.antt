use Rattle.std.proofs.Common.{ltb, ltb-true, ltb-false, arith, rules}
use Rattle.std.proofs.lemmas.List.Sorted.{IsPartitionPoint-from_clause, IsPartitionedBy-ltb}
use Rattle.wc_system.specs.declared.terms.Visit.{Visit}
use Rattle.wc_system.proofs.terms.first_at.Goals as goal

pub returns-clause-first : goal.returns-clause-first
returns-clause-first c =
    let parted = IsPartitionedBy-ltb (λ (v : Visit). v.at) _ c.args.at c.requires in
    let point = IsPartitionPoint-from_clause (λ (v : Visit). ltb v.at c.args.at) _ _ c.partition_point.ensures.partitioned parted (λ a r q k. search rules) in
    ((λ k d before. ltb-true _ _ (point.0 k d (omega arith) before)), (λ k d after inside. ltb-false _ _ (point.1 k d after inside)))
