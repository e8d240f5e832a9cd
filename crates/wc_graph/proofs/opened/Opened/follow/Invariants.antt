use Rattle.std.proofs.Common.{◌-◌, length}
use Rattle.wc_graph.specs.Inner.Opened.{AreOpened}
use Rattle.wc_graph.proofs.opened.Opened.follow.Given as goal

abbrev pub invariant-loop-self : goal.invariant-loop-self
invariant-loop-self l = AreOpened l.frames l.self

abbrev pub decreases-loop-self : goal.decreases-loop-self
decreases-loop-self l = length l.frames - length l.self.roots.items
