use Rattle.wc_simplex.specs.Inner.Prices.{IsChained}
use Rattle.wc_simplex.proofs.potentials.chain.Given as goal

abbrev pub invariant-loop-place : goal.invariant-loop-place
invariant-loop-place l = IsChained l.system l.scale l.prices l.column l.place l.next l.fn.inner.items l.inner.items
