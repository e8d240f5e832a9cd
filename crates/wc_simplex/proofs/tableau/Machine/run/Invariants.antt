use Rattle.std.proofs.Common.{◌≡◌}
use Rattle.wc_model.specs.Flow.RowMachine.{phase}
use Rattle.wc_simplex.specs.Inner.Machines.{IsRegular, KeepsShape, seen, shape_of}
use Rattle.wc_simplex.proofs.tableau.Machine.run.Given as goal

abbrev pub invariant-loop-place : goal.invariant-loop-place
invariant-loop-place l =
    IsRegular l.self × KeepsShape l.fn.self l.self × (phase l.first (shape_of l.fn.self) l.left (seen l.self) ≡ phase l.first (shape_of l.fn.self) l.fn.most (seen l.fn.self))

abbrev pub decreases-loop-place : goal.decreases-loop-place
decreases-loop-place l = l.left
