use Rattle.std.proofs.Common.{◌≡◌, ◌<◌, ◌^◌, drop, pos}
use Rattle.wc_model.specs.Flow.RowResults.{common_from}
use Rattle.wc_simplex.specs.Inner.Machines.{seen, shape_of}
use Rattle.wc_simplex.proofs.tableau.Machine.denominator.Given as goal

abbrev pub invariant-loop-row : goal.invariant-loop-row
invariant-loop-row l =
    (l.den < 2 ^ 127)
    × (common_from (shape_of l.self) (seen l.self) l.row (pos l.den) (drop l.row l.self.basis.items) ≡ common_from (shape_of l.self) (seen l.self) 0 (pos 1) l.self.basis.items)
