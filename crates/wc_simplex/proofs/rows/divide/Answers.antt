use Rattle.std.proofs.Common.{arith, rules}
use Rattle.wc_simplex.proofs.RowLemmas.{divided}
use Rattle.wc_simplex.proofs.rows.divide.Goals as goal

pub loop-place-preserved : goal.loop-place-preserved
loop-place-preserved c =
    divided c.args.row.now.items c.loop-place.row.items c.loop-place.place c.args.by c.index.result.now c.quotient.result
    (omega arith) c.loop-place.invariant.0 c.loop-place.invariant.1 c.index.ensures (search rules) c.quotient.ensures
