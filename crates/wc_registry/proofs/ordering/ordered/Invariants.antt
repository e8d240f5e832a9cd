use Rattle.std.proofs.Common.{◌≡◌}
use Rattle.wc_model.specs.Workspace.Closures.{placed_after}
use Rattle.wc_registry.proofs.ordering.ordered.Given as goal

abbrev pub invariant-loop-describe : goal.invariant-loop-describe
invariant-loop-describe l = l.order.items ≡ placed_after l.list l._describe-index
