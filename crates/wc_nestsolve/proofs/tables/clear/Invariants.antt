use Rattle.std.proofs.Common.{◌≡◌, length}
use Rattle.wc_nestsolve.specs.Inner.Tables.{StandIn}
use Rattle.wc_nestsolve.proofs.tables.clear.Given as goal

abbrev pub invariant-loop-node : goal.invariant-loop-node
invariant-loop-node l = StandIn l.nodes l.node-index l.best.items × (length l.best.items ≡ length l.initial.best.items)
