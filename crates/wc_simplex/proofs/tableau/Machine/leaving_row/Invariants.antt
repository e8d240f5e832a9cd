use Rattle.std.proofs.Common.{◌≡◌, ◌<◌, None, drop, length}
use Rattle.std.specs.Option.{IfSome}
use Rattle.wc_model.specs.Flow.RowMachine.{leaving_from}
use Rattle.wc_simplex.specs.Inner.Machines.{seen, shape_of}
use Rattle.wc_simplex.proofs.tableau.Machine.leaving_row.Given as goal

abbrev pub invariant-loop-place : goal.invariant-loop-place
invariant-loop-place l =
    IfSome l.best (λ b. b < length l.self.rows.items)
    × (leaving_from (shape_of l.self) (seen l.self) l.column l.place l.best (drop l.place l.self.rows.items) ≡ leaving_from (shape_of l.self) (seen l.self) l.column 0 None l.self.rows.items)
