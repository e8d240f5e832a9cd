use Rattle.wc_simplex.specs.Inner.Lines.{AreMarks}
use Rattle.wc_simplex.proofs.lines.marks.Given as goal

abbrev pub invariant-loop-place : goal.invariant-loop-place
invariant-loop-place l = AreMarks l.count l.places l.place l.marks.items
