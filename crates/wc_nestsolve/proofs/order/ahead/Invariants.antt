use Rattle.std.proofs.Common.{◌≡◌, ◌++◌, drop}
use Rattle.wc_nestsolve.specs.Inner.Orders.{loosened}
use Rattle.wc_nestsolve.proofs.order.ahead.Given as goal

abbrev pub invariant-loop-place : goal.invariant-loop-place
invariant-loop-place l = l.ahead.items ++ loosened (drop l.place l.nest.back) (drop l.place l.system.steps) ≡ loosened l.nest.back l.system.steps
