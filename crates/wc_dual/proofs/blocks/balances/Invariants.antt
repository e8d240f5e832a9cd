use Rattle.std.proofs.Common.{◌≡◌, length}
use Rattle.wc_model.specs.Flow.Places.{number_at}
use Rattle.wc_dual.specs.Inner.Blocks.{AreBalances}
use Rattle.wc_dual.proofs.blocks.balances.Given as goal

abbrev pub invariant-loop-place : goal.invariant-loop-place
invariant-loop-place l = record { kept : length l.sums ≡ length l.fn.sums; so_far : AreBalances l.steps (number_at l.x) l.first l.place l.sums }
