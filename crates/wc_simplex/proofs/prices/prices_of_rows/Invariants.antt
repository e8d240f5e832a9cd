use Rattle.std.proofs.Common.{◌≡◌, ◌+◌, drop}
use Rattle.wc_model.specs.Flow.RowResults.{prices_from}
use Rattle.wc_simplex.specs.Inner.Steps.{behind}
use Rattle.wc_simplex.proofs.prices.prices_of_rows.Given as goal

abbrev pub invariant-loop-place : goal.invariant-loop-place
invariant-loop-place l = behind l.prices.items (prices_from l.goal (l.real + l.place) l.base (drop l.place l.signs)) ≡ prices_from l.goal l.real l.base l.signs
