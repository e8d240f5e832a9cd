use Rattle.std.proofs.Common.{◌<◌, ℕ, pos, ◌≤ℤ◌}
use Rattle.wc_model.specs.Flow.Places.{number_at}
use Rattle.wc_dual.proofs.certificates.are_some.Given as goal

abbrev pub invariant-loop-place : goal.invariant-loop-place
invariant-loop-place l = (i : ℕ) → i < l.place → pos 0 ≤ℤ number_at l.numbers i
