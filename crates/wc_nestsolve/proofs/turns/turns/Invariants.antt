use Rattle.wc_nestsolve.specs.Inner.LastPass.{HasTurn, IsLastTable}
use Rattle.wc_nestsolve.proofs.turns.turns.Given as goal

abbrev pub invariant-loop-place : goal.invariant-loop-place
invariant-loop-place l =
    HasTurn l.system l.nest l.v l.place l.turned.u.items l.turned.x.items × IsLastTable l.system l.nest l.extra l.v l.best.items
