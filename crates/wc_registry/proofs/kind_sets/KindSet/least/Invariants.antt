use Rattle.std.proofs.Common.{ℕ, ◌≡◌, ◌<◌, true}
use Rattle.wc_registry.specs.Inner.KindSets.{holds}
use Rattle.wc_registry.proofs.kind_sets.KindSet.least.Given as goal

abbrev pub invariant-loop-number : goal.invariant-loop-number
invariant-loop-number l = (k : ℕ) → k < l.number → holds l.self-inside.marks k ≡ true → ⊥
