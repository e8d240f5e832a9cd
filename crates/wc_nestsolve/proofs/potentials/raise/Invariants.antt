use Rattle.wc_nestsolve.specs.Inner.Raising.{IsRaised}
use Rattle.wc_nestsolve.proofs.potentials.raise.Given as goal

abbrev pub invariant-loop-node : goal.invariant-loop-node
invariant-loop-node l = IsRaised l.class l.node-index l.best l.from l.initial.u.items l.u.items
