use Rattle.wc_simplex.specs.Inner.Counts.{AreColumnsAt}
use Rattle.wc_simplex.proofs.counts.columns_at.Given as goal

abbrev pub invariant-loop-column : goal.invariant-loop-column
invariant-loop-column l = AreColumnsAt l.steps l.columns l.column l.found.items
