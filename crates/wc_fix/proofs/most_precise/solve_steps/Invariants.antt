use Rattle.wc_fix.specs.Inner.Fixing.{IsFixing, work_left}
use Rattle.wc_fix.proofs.most_precise.solve_steps.Given as goal

abbrev pub invariant-loop-node : goal.invariant-loop-node
invariant-loop-node g l =
    let x = g.L.Lattice in
    IsFixing x (record { nodes = l.nodes; steps = l.steps; access = l.access; start = l.start; first = l.fn.first }) l.fixing.states.items l.fixing.waiting (λ _. ⊥)

abbrev pub decreases-loop-node : goal.decreases-loop-node
decreases-loop-node g l = work_left g.L.Lattice l.fixing.states.items l.fixing.waiting
