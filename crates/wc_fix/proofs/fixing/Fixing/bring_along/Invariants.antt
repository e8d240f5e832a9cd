use Rattle.std.proofs.Common.{drop}
use Rattle.wc_fix.specs.Inner.Fixing.{IsLeading}
use Rattle.wc_fix.proofs.fixing.Fixing.bring_along.Given as goal

abbrev pub invariant-loop-step : goal.invariant-loop-step
invariant-loop-step g l =
    let x = g.L.Lattice in
    IsLeading x l.after l.steps (drop l.step-index l.steps) l.fn.self.states.items l.fn.self.waiting l.self.states.items l.self.waiting
