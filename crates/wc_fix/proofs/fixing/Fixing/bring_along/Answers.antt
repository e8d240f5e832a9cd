use Rattle.std.proofs.Common.{◌≡◌, List, [], None, false, drop, arith}
use Rattle.std.proofs.lemmas.List.{at_drop_all}
use Rattle.wc_model.specs.declared.graphs.Step.{Step}
use Rattle.wc_fix.proofs.VisitLemmas.{leads_more}
use Rattle.wc_fix.proofs.fixing.Fixing.bring_along.Goals as goal

nowhere : Step
nowhere = record { source = 0; target = None; taken = false }

pub loop-step-preserved : goal.loop-step-preserved
unfolding nowhere
loop-step-preserved g c =
    let x = g.L.Lattice in
    let laws = g.met.L.Lattice in
    let old = c.args.self.now in
    let now = c.loop-step.self in
    let new = c.bring.new.self in
    leads_more x laws.precise_refl laws.precise_trans laws.access_keeps
    c.args.after.now c.args.steps.now c.loop-step.step-index nowhere old.states.items old.waiting now.states.items now.waiting new.states.items new.waiting
    c.loop-step-test.true c.requires.paired c.requires.targets c.in_ok-bring.ensures c.loop-step.invariant

pub returns-clause-visit : goal.returns-clause-visit
returns-clause-visit g c =
    let i = c.loop-step.step-index in
    let ends : drop i c.args.steps.now ≡ [] = at_drop_all (λ (xs : List Step). xs) c.args.steps.now i (omega (arith, c.loop-step-test.false)) in
    λ problem node visit. rw ends at (c.loop-step.invariant.visits problem node visit)
