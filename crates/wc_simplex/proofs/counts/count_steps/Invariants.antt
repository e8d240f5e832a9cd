use Rattle.std.proofs.Common.{◌≡◌, drop}
use Rattle.wc_model.specs.Flow.Exact.{each_of}
use Rattle.wc_simplex.specs.Inner.Counts.{counted}
use Rattle.wc_simplex.specs.Inner.Steps.{behind}
use Rattle.wc_simplex.proofs.counts.count_steps.Given as goal

abbrev pub invariant-loop-column : goal.invariant-loop-column
invariant-loop-column l = behind l.counts.items (each_of (counted l.machine l.den l.rows) (drop l.column-index l.at)) ≡ each_of (counted l.machine l.den l.rows) l.at
