use Rattle.std.proofs.Common.{ℕ, length}
use Rattle.wc_nest.specs.Inner.Nestings.{IsNesting}
use Rattle.wc_nest.proofs.graph_nest.find_nest.Given as goal

abbrev pub invariant-loop-alloc : goal.invariant-loop-alloc
invariant-loop-alloc l = (k : ℕ) × IsNesting l.graph k l.nesting l.level

abbrev pub decreases-loop-alloc : goal.decreases-loop-alloc
decreases-loop-alloc l = length l.level.ways.items
