use Rattle.std.proofs.Common.{◌+◌, length}
use Rattle.wc_graph.specs.Inner.Spreads.{IsSpreading, unmarked}
use Rattle.wc_graph.proofs.live.spread.Given as goal

abbrev pub invariant-loop-number : goal.invariant-loop-number
invariant-loop-number l = IsSpreading l.into l.from l.marked

abbrev pub decreases-loop-number : goal.decreases-loop-number
decreases-loop-number l = unmarked l.marked.marks.items + length l.marked.work.items
