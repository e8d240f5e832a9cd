use Rattle.wc_dual.specs.Inner.Parts.{AreWanted}
use Rattle.wc_dual.proofs.counts.are_wanted.Given as goal

abbrev pub invariant-loop-place : goal.invariant-loop-place
invariant-loop-place l = AreWanted l.system l.den l.first l.place l.sums
