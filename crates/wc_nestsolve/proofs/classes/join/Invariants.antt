use Rattle.std.proofs.Common.{◌<◌, length}
use Rattle.std.specs.Prelude.{IfSome}
use Rattle.wc_model.specs.Flow.Ceiling.{loops_round}
use Rattle.wc_nestsolve.specs.Inner.Passes.{IsJoining, loops_from, rank_of}
use Rattle.wc_nestsolve.proofs.classes.join.Given as goal

abbrev pub invariant-loop-at : goal.invariant-loop-at
invariant-loop-at l = IsJoining (loops_round l.nest l.node) (loops_from l.nest l.at) l.node l.initial.classes.items l.classes.items × IfSome l.at (λ k. k < length l.nest.heads)

abbrev pub decreases-loop-at : goal.decreases-loop-at
decreases-loop-at l = rank_of l.at
