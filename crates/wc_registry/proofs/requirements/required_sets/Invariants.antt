use Rattle.std.proofs.Common.{ℕ, ◌≡◌, ◌<◌, true, [], length, slice_index_or}
use Rattle.std.specs.Prelude.{◌↔◌}
use Rattle.wc_model.specs.Workspace.Registry.{Requires}
use Rattle.wc_registry.specs.Inner.KindSets.{holds}
use Rattle.wc_registry.proofs.requirements.required_sets.Given as goal

abbrev pub invariant-loop-number : goal.invariant-loop-number
invariant-loop-number l = record {
  counted : length l.sets.items ≡ l.number;
  are : (k j : ℕ) → k < l.number → (holds (slice_index_or l.sets.items k []) j ≡ true) ↔ Requires l.list k j;
}
