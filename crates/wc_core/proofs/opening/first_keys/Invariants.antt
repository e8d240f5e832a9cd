use Rattle.std.proofs.Common.{ℕ, ◌≡◌, ◌<◌, ◌++◌, All, drop, map}
use Rattle.wc_core.proofs.opening.first_keys.Given as goal

abbrev pub keyed : ℕ → ℕ × ℕ
keyed k = (k, 0)

abbrev pub invariant-loop-kind : goal.invariant-loop-kind
invariant-loop-kind l = (l.keys.items ++ map keyed (drop l.kind-index l.order) ≡ map keyed l.order) × All (λ k. k.0 < 65) l.keys.items
