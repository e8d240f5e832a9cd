use Rattle.std.proofs.Common.{drop}
use Rattle.wc_nestsolve.specs.Inner.Adding.{IsAdding}
use Rattle.wc_nestsolve.proofs.counts.add.Given as goal

abbrev pub invariant-loop-place : goal.invariant-loop-place
invariant-loop-place l = IsAdding l.walk l.times l.initial.x.items (drop l.place-index l.walk) l.x.items
