use Rattle.std.proofs.Common.{◌≡◌, None, All, length}
use Rattle.wc_core.proofs.tests.stage.nothing.Given as goal

abbrev pub invariant-loop-place : goal.invariant-loop-place
invariant-loop-place g l = All (λ x. x ≡ None) l.xs.items × (length l.xs.items ≡ l._place)
