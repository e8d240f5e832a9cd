use Rattle.std.proofs.Common.{◌≤◌, length}
use Rattle.wc_nestsolve.specs.Inner.Passes.{IsRoundsPass}
use Rattle.wc_nestsolve.proofs.rounds.rounds.Given as goal

abbrev pub invariant-loop-left : goal.invariant-loop-left
invariant-loop-left l = IsRoundsPass l.system l.nest l.ways.order.items l.ways.classes.items l.left l.extra.items l.v.items l.best.items × (l.left ≤ length l.system.loops)

abbrev pub decreases-loop-left : goal.decreases-loop-left
decreases-loop-left l = l.left
