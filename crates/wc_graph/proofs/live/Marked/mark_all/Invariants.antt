use Rattle.std.proofs.Common.{take}
use Rattle.wc_graph.specs.Inner.Spreads.{Marks}
use Rattle.wc_graph.proofs.live.Marked.mark_all.Given as goal

abbrev pub invariant-loop-number : goal.invariant-loop-number
invariant-loop-number l = Marks (take l.number-index l.numbers) l.fn.self l.self
