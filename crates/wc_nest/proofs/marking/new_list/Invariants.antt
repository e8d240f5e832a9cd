use Rattle.std.proofs.Common.{◌≡◌, replicate}
use Rattle.wc_nest.proofs.marking.new_list.Given as goal

abbrev pub invariant-loop-item : goal.invariant-loop-item
invariant-loop-item g l = l.items.items ≡ replicate l._item l.value
