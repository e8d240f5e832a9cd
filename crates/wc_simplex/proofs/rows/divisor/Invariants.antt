use Rattle.std.proofs.Common.{◌≡◌, drop}
use Rattle.wc_model.specs.Flow.Exact.{row_gcd}
use Rattle.wc_simplex.proofs.rows.divisor.Given as goal

abbrev pub invariant-loop-entry : goal.invariant-loop-entry
invariant-loop-entry l = row_gcd l.found (drop l.entry-index l.row) ≡ row_gcd 0 l.row
