use Rattle.std.proofs.Common.{◌==◌, take}
use Rattle.wc_base.specs.Sums.{chosen}
use Rattle.wc_dual.specs.Inner.Blocks.{Adds}
use Rattle.wc_dual.specs.Inner.Passes.{added_by}
use Rattle.wc_dual.proofs.passes.put_places.Given as goal

abbrev pub invariant-loop-place : goal.invariant-loop-place
invariant-loop-place l = Adds l.first (added_by (λ _ n i. chosen (n == i) l.amount) (take l.place-index l.places)) l.fn.sums l.sums
