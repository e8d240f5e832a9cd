use Rattle.std.proofs.Common.{◌≡◌, All, length}
use Rattle.wc_core.proofs.pins.names_of.Given as goal

abbrev pub invariant-loop-made : goal.invariant-loop-made
invariant-loop-made l = All (λ t. t ≡ l.name) l.names.items × (length l.names.items ≡ l._made)
