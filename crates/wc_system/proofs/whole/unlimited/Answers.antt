use Rattle.std.proofs.Common.{◌≡◌, ◌<◌, ap, ap₂, length, subst, sym, ◌∙◌, arith}
use Rattle.std.specs.Prelude.{All, IfSome}
use Rattle.wc_model.specs.Flow.Systems.{system_steps}
use Rattle.wc_system.proofs.SoundLemmas.{steps_all, steps_counted}
use Rattle.wc_system.proofs.whole.unlimited.Goals as goal

pub loops_of-requires-clause-targets : goal.loops_of-requires-clause-targets
loops_of-requires-clause-targets c =
    let steps = c.as_slice.ensures.value ∙ c.in_ok-steps.ensures ∙ ap₂ system_steps c.items.ensures c.items-2.ensures in
    let targets = subst (λ n. All (λ s. IfSome s.target (λ q. q < n)) c.args.graph.now.steps) (sym (ap length c.items-nodes.ensures)) c.requires.graph.targets in
    subst (λ xs. All (λ t. IfSome t.target (λ q. q < length c.items-nodes.result.now)) xs) (sym steps)
    (steps_all (λ p t. IfSome t (λ q. q < length c.items-nodes.result.now)) c.args.graph.now.steps c.args.costs.now.of targets)

pub loops_of-requires-clause-steps : goal.loops_of-requires-clause-steps
loops_of-requires-clause-steps c =
    let steps = c.as_slice.ensures.value ∙ c.in_ok-steps.ensures ∙ ap₂ system_steps c.items.ensures c.items-2.ensures in
    omega (arith, ap length steps, steps_counted c.args.graph.now.steps c.args.costs.now.of c.requires.costs, c.requires.graph.few_steps)

pub loops_of-requires-clause-marks : goal.loops_of-requires-clause-marks
loops_of-requires-clause-marks c =
    let steps = c.as_slice.ensures.value ∙ c.in_ok-steps.ensures ∙ ap₂ system_steps c.items.ensures c.items-2.ensures in
    omega (arith, ap length steps, steps_counted c.args.graph.now.steps c.args.costs.now.of c.requires.costs, c.requires.nest.back_counted)
