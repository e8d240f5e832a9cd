use Rattle.std.proofs.Common.{◌≡◌, ◌<◌, ◌≤◌, List, None, IfSome, All, take, get_or, subst, arith}
use Rattle.std.specs.List.{AllPairs}
use Rattle.std.proofs.lemmas.List.{take_all, take_more}
use Rattle.std.proofs.lemmas.List.Elements.{All-push, All-weaker}
use Rattle.std.proofs.lemmas.List.Quantifiers.{all_pairs_push}
use Rattle.wc_model.specs.declared.flow_system.SystemStep.{SystemStep}
use Rattle.wc_model.proofs.walks.tests.are_steps.Goals as goal

nowhere : SystemStep
nowhere = record { source = 0; target = None; cost = 0 }

pub loop-step-preserved : goal.loop-step-preserved
unfolding nowhere
loop-step-preserved c =
    let steps = c.args.steps.now in
    let i = c.loop-step.step-index in
    let x : SystemStep = get_or steps i nowhere in
    let old = c.loop-step.invariant in
    let low : All (λ (s : SystemStep). s.source ≤ x.source) (take i steps) = All-weaker (λ (s : SystemStep). s.source ≤ c.loop-step.last) (λ (s : SystemStep). s.source ≤ x.source) (λ s less. omega (arith, c.if-step-last.false)) (take i steps) old.low in
    record {
      low = rw (take_more steps i nowhere c.loop-step-test.true) (All-push (λ (s : SystemStep). s.source ≤ x.source) (take i steps) x low (omega arith));
      sources = rw (take_more steps i nowhere c.loop-step-test.true) (All-push (λ (s : SystemStep). s.source < c.args.nodes) (take i steps) x old.sources (omega (arith, c.if-nodes-step.false)));
      targets = rw (take_more steps i nowhere c.loop-step-test.true) (All-push (λ (s : SystemStep). IfSome s.target (λ q. q < c.args.nodes)) (take i steps) x old.targets (c.leaves.ensures c.if-leaves.false));
      sorted = rw (take_more steps i nowhere c.loop-step-test.true) (all_pairs_push (λ (s t : SystemStep). s.source ≤ t.source) (take i steps) x old.sorted low);
    }

pub returns : goal.returns
returns c = λ fine.
    let steps = c.args.steps.now in
    let old = c.loop-step.invariant in
    let all : take c.loop-step.step-index steps ≡ steps = take_all c.loop-step.step-index steps (omega (arith, c.loop-step-test.false)) in
    record {
      sources = subst (λ (xs : List SystemStep). All (λ s. s.source < c.args.nodes) xs) all old.sources;
      targets = subst (λ (xs : List SystemStep). All (λ s. IfSome s.target (λ q. q < c.args.nodes)) xs) all old.targets;
      sorted = subst (λ (xs : List SystemStep). AllPairs (λ s t. s.source ≤ t.source) xs) all old.sorted;
    }
