use Rattle.std.proofs.Common.{◌≡◌, None, All, length}
use Rattle.wc_core.proofs.given.Given.new.Given as goal

abbrev pub invariant-loop-place : goal.invariant-loop-place
invariant-loop-place g l = All (λ c. c ≡ None) l.had.items × (length l.had.items ≡ l._place)
