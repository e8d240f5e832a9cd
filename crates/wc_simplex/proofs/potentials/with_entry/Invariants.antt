use Rattle.std.proofs.Common.{◌≡◌, ◌++◌, List, Option, ℤ, drop}
use Rattle.wc_model.specs.Flow.RowResults.{entry_terms, sum_terms}
use Rattle.wc_simplex.proofs.potentials.with_entry.Given as goal

abbrev pub invariant-loop-index : goal.invariant-loop-index
invariant-loop-index l =
    (ts : List (Option ℤ)) → sum_terms l.acc (entry_terms l.place (drop l.index l.loops) (drop l.index l.prices) ++ ts) ≡ sum_terms l.fn.acc (entry_terms l.place l.loops l.prices ++ ts)
