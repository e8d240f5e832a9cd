use Rattle.wc_simplex.specs.Inner.Columns.{AreIns}
use Rattle.wc_simplex.proofs.columns.ins.Given as goal

abbrev pub invariant-loop-place : goal.invariant-loop-place
invariant-loop-place l = AreIns l.system l.place l.ins.items
