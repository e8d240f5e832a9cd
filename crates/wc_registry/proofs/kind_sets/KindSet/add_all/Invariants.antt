use Rattle.std.proofs.Common.{ℕ, ◌≡◌, ◌||◌, length, take}
use Rattle.wc_model.specs.Workspace.Closures.{has_kind}
use Rattle.wc_registry.specs.Inner.KindSets.{holds}
use Rattle.wc_registry.proofs.kind_sets.KindSet.add_all.Given as goal

abbrev pub invariant-loop-kind : goal.invariant-loop-kind
invariant-loop-kind l = record {
  adds : (k : ℕ) → holds l.self k ≡ (has_kind k (take l.kind-index l.kinds) || holds l.fn.self k);
  counted : length l.self ≡ 65;
}
