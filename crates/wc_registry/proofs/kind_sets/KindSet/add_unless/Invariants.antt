use Rattle.std.proofs.Common.{ℕ, ◌≡◌, ◌||◌, ◌&&◌, not, take}
use Rattle.wc_model.specs.Workspace.Closures.{has_kind}
use Rattle.wc_registry.specs.Inner.KindSets.{holds}
use Rattle.wc_registry.proofs.kind_sets.KindSet.add_unless.Given as goal

abbrev pub invariant-loop-kind : goal.invariant-loop-kind
invariant-loop-kind l = (k : ℕ) → holds l.self k ≡ ((has_kind k (take l.kind-index l.kinds) && not (holds l.other k)) || holds l.fn.self k)
