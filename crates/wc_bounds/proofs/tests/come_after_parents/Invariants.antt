use Rattle.std.proofs.Common.{ℕ, ◌≡◌, ◌<◌, Some, IfSome}
use Rattle.std.specs.List.{slice_get}
use Rattle.wc_model.specs.declared.graphs.Context.{Context}
use Rattle.wc_bounds.proofs.tests.come_after_parents.Given as goal

abbrev pub invariant-loop-index : goal.invariant-loop-index
invariant-loop-index l = (k : ℕ) (c : Context) → k < l.index → slice_get l.contexts k ≡ Some c → IfSome c.parent (λ j. j < k)
