use Rattle.std.proofs.Common.{◌≡◌, length}
use Rattle.wc_model.specs.Flow.Places.{number_at}
use Rattle.wc_dual.specs.Inner.Lines.{AreStarts}
use Rattle.wc_dual.proofs.prices.open_lines.Given as goal

abbrev pub invariant-loop-place : goal.invariant-loop-place
invariant-loop-place l = record { kept : length l.sums ≡ length l.fn.sums; so_far : AreStarts l.steps (number_at l.u) l.first l.place l.sums }
