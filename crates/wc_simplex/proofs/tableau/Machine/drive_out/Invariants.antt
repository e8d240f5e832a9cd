use Rattle.std.proofs.Common.{◌≡◌, drop}
use Rattle.wc_model.specs.Flow.RowMachine.{driven}
use Rattle.wc_simplex.specs.Inner.Machines.{IsRegular, KeepsShape, seen, shape_of}
use Rattle.wc_simplex.proofs.tableau.Machine.drive_out.Given as goal

abbrev pub invariant-loop-place : goal.invariant-loop-place
invariant-loop-place l =
    IsRegular l.self × KeepsShape l.fn.self l.self
    × (driven (shape_of l.fn.self) l.left l.place (seen l.self) (drop l.place l.fn.self.rows.items) ≡ driven (shape_of l.fn.self) l.fn.most 0 (seen l.fn.self) l.fn.self.rows.items)
