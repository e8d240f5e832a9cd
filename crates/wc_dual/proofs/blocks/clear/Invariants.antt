use Rattle.std.proofs.Common.{◌≡◌, ◌<◌, ℕ, pos, length}
use Rattle.wc_model.specs.Flow.Places.{number_at}
use Rattle.wc_dual.proofs.blocks.clear.Given as goal

abbrev pub invariant-loop-place : goal.invariant-loop-place
invariant-loop-place l = record { kept : length l.room ≡ length l.fn.room; so_far : (k : ℕ) → k < l.place → number_at l.room k ≡ pos 0 }
