use Rattle.std.proofs.Common.{arith}
use Rattle.wc_simplex.proofs.DivisorLemmas.{found_one}
use Rattle.wc_simplex.proofs.rows.divisor.Goals as goal

pub returns-then-found-eq1 : goal.returns-then-found-eq1
returns-then-found-eq1 c =
    found_one c.args.row.now c.loop-entry.entry-index c.loop-entry.found c.divisor_with-found.result (omega arith) c.loop-entry.invariant c.divisor_with-found.ensures c.if-found-eq1.true
