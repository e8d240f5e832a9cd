use Rattle.std.proofs.Common.{◌≡◌, drop}
use Rattle.wc_model.specs.Flow.RowResults.{limit_terms, sum_terms}
use Rattle.wc_simplex.proofs.potentials.less_limits.Given as goal

abbrev pub invariant-loop-index : goal.invariant-loop-index
invariant-loop-index l = sum_terms l.acc (limit_terms l.node (drop l.index l.limits) (drop l.index l.prices)) ≡ sum_terms l.fn.acc (limit_terms l.node l.limits l.prices)
