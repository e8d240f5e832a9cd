use Rattle.std.proofs.Common.{◌≡◌, replicate}
use Rattle.wc_model.specs.declared.walks.search.Mark.TheVariants.{New}
use Rattle.wc_model.proofs.walks.search.new_marks.Given as goal

abbrev pub invariant-loop-node : goal.invariant-loop-node
invariant-loop-node l = l.marks.items ≡ replicate l._node New
