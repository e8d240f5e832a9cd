use Rattle.wc_model.specs.Flow.RowResults.{RowPrices}
use Rattle.wc_simplex.specs.Inner.Prices.{ArePriced, AreInner}
use Rattle.wc_simplex.proofs.potentials.inner_potentials.Given as goal

abbrev pub invariant-loop-place : goal.invariant-loop-place
invariant-loop-place l = AreInner l.system l.scale l.prices l.columns l.place l.inner.items
