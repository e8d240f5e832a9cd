use Rattle.std.proofs.Common.{◌≡◌, drop}
use Rattle.wc_model.specs.Workspace.Closures.{next_available}
use Rattle.wc_registry.specs.Inner.Required.{least_of}
use Rattle.wc_registry.proofs.ordering.next_available.Given as goal

abbrev pub invariant-loop-describe : goal.invariant-loop-describe
invariant-loop-describe l = least_of l.least (next_available (drop l.describe-index l.list) l.placed) ≡ next_available l.list l.placed
