use Rattle.wc_simplex.specs.Inner.Columns.{AreOuts}
use Rattle.wc_simplex.proofs.columns.outs.Given as goal

abbrev pub invariant-loop-place : goal.invariant-loop-place
invariant-loop-place l = AreOuts l.system l.place l.outs.items
