use Rattle.std.proofs.Common.{◌≡◌}
use Rattle.wc_model.specs.Flow.Tableaus.{halves}
use Rattle.wc_simplex.specs.Inner.Making.{inequalities, inequalities_from, made_before}
use Rattle.wc_simplex.proofs.making.add_inequalities.Given as goal

abbrev pub invariant-loop-place : goal.invariant-loop-place
invariant-loop-place l =
    made_before l.fn.made.items (halves l.system l.columns l.slacks 0 (inequalities l.system))
    ≡ made_before l.made.items (halves l.system l.columns l.slacks l.place (inequalities_from l.system l.place))
