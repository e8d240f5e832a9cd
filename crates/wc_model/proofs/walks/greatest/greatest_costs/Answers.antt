use Rattle.std.proofs.Common.{ℕ, ◌≡◌, ◌+◌, ◌*◌, ◌^◌, ◌<◌, ◌≤◌, List, Option, None, Some, IfSome, All, length, get_or, sym, subst, ◌∙◌, arith}
use Rattle.std.specs.List.{Contains, slice_get}
use Rattle.std.proofs.lemmas.List.{length-set}
use Rattle.std.proofs.lemmas.List.Elements.{All-contains, All-set, All-weaker, All-contains_itself}
use Rattle.std.proofs.lemmas.Option.{slice_get-get_or, slice_get_within, IfSome_then}
use Rattle.wc_model.specs.declared.flow_system.SystemStep.{SystemStep}
use Rattle.wc_model.specs.Inner.Greatest.{cost_through, IsGreatestOf}
use Rattle.wc_model.proofs.Places.{get_from_contains}
use Rattle.wc_model.proofs.Greatest.{best_more}
use Rattle.wc_model.proofs.walks.greatest.greatest_costs.Goals as goal

pub greatest_through-greatest-requires-clause-targets : goal.greatest_through-greatest-requires-clause-targets
greatest_through-greatest-requires-clause-targets c =
    let out = c.steps_from.result.now in
    let inside : (s : SystemStep) → Contains out s → IfSome s.target (λ q. q < length c.deref-in-loop-node.result.now) = λ s among.
    rw (c.deref-in-loop-node.ensures.value, c.loop-node.invariant.count) (All-contains (λ (t : SystemStep). IfSome t.target (λ q. q < c.args.nodes)) c.args.steps.now s c.requires.steps.targets (c.steps_from.ensures.inside s among).0) in
    All-weaker (Contains out) (λ (s : SystemStep). IfSome s.target (λ q. q < length c.deref-in-loop-node.result.now)) inside out (All-contains_itself out)

pub loop-node-preserved : goal.loop-node-preserved
loop-node-preserved c =
    let best = c.loop-node.best.items in
    let i = c.loop-node.node-index in
    let p : ℕ = get_or c.args.order.now i 0 in
    let old = c.loop-node.invariant in
    let g = c.greatest_through-greatest.result in
    let here_p : slice_get c.args.order.now i ≡ Some p = slice_get-get_or c.args.order.now i 0 c.loop-node-test.true in
    let known : p < c.args.nodes = c.requires.inside i 0 c.loop-node-test.true in
    let value = c.deref-in-loop-node.ensures.value in
    let low : All (λ (b : Option ℕ). IfSome b (λ n. n ≤ i * 2 ^ 64)) c.deref-in-loop-node.result.now = subst (λ (xs : List (Option ℕ)). All (λ (b : Option ℕ). IfSome b (λ n. n ≤ i * 2 ^ 64)) xs) (sym value) old.small in
    let fits = c.greatest_through-greatest.ensures.small (i * 2 ^ 64) low in
    let greatest : IsGreatestOf (cost_through best) c.steps_from.result.now g = subst (λ (xs : List (Option ℕ)). IsGreatestOf (cost_through xs) c.steps_from.result.now g) value c.greatest_through-greatest.ensures.greatest in
    record {
      count = length-set best p g ∙ old.count;
      so_far = best_more c.args.steps.now c.args.order.now best i p c.steps_from.result.now g c.requires.ordered here_p (omega (arith, old.count, known)) old.so_far c.steps_from.ensures greatest;
      small = All-set (λ (b : Option ℕ). IfSome b (λ n. n ≤ (i + 1) * 2 ^ 64)) best p g
          (IfSome_then g fits (λ n less. omega arith))
          (All-weaker (λ (b : Option ℕ). IfSome b (λ n. n ≤ i * 2 ^ 64)) (λ (b : Option ℕ). IfSome b (λ n. n ≤ (i + 1) * 2 ^ 64)) (λ b fine. IfSome_then b fine (λ n less. omega arith)) best old.small);
    }

pub returns-clause-best : goal.returns-clause-best
returns-clause-best c = λ p among.
    let placed : (j : ℕ) × (slice_get c.args.order.now j ≡ Some p) = get_from_contains c.args.order.now p among in
    let within : placed.0 < length c.args.order.now = slice_get_within c.args.order.now placed.0 p placed.1 in
    let known : p < c.args.nodes = All-contains (λ (q : ℕ). q < c.args.nodes) c.args.order.now p c.requires.inside among in
    (get_or c.loop-node.best.items p None, slice_get-get_or c.loop-node.best.items p None (omega (arith, c.loop-node.invariant.count)), c.loop-node.invariant.so_far placed.0 p (omega (arith, c.loop-node-test.false)) placed.1)
