use Rattle.wc_simplex.specs.Inner.Lines.{AreFactors}
use Rattle.wc_simplex.proofs.lines.factors.Given as goal

abbrev pub invariant-loop-place : goal.invariant-loop-place
invariant-loop-place l = AreFactors l.nodes l.named l.place l.factors.items
