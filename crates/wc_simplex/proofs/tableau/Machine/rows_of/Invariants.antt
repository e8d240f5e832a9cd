use Rattle.wc_simplex.specs.Inner.Counts.{AreRowsOf}
use Rattle.wc_simplex.proofs.tableau.Machine.rows_of.Given as goal

abbrev pub invariant-loop-row : goal.invariant-loop-row
invariant-loop-row l = AreRowsOf l.self.right l.self.basis.items l.row l.rows.items
