use Rattle.std.proofs.Common.{take}
use Rattle.wc_model.specs.Flow.Places.{number_at}
use Rattle.wc_dual.specs.Inner.Blocks.{Adds}
use Rattle.wc_dual.specs.Inner.Lines.{back_term}
use Rattle.wc_dual.specs.Inner.Passes.{added_by}
use Rattle.wc_dual.proofs.passes.add_backs.Given as goal

abbrev pub invariant-loop-place : goal.invariant-loop-place
invariant-loop-place l = Adds l.first (added_by (back_term (number_at l.v)) (take l.place l.loops)) l.fn.sums l.sums
