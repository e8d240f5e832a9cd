use Rattle.wc_dual.specs.Inner.Lines.{AreMet}
use Rattle.wc_dual.proofs.prices.are_met.Given as goal

abbrev pub invariant-loop-place : goal.invariant-loop-place
invariant-loop-place l = AreMet l.steps l.scale l.first l.place l.sums
