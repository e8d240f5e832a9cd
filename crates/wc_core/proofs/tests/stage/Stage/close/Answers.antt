use Rattle.std.proofs.Common.{◌≡◌, ◌≤◌, ℕ, None, sym, subst, ◌∙◌, arith}
use Rattle.wc_core.specs.Answers.{LeavesFree}
use Rattle.wc_core.specs.Inner.Stages.{held_at}
use Rattle.wc_core.proofs.ClosingLemmas.{all_rest}
use Rattle.wc_core.proofs.StageLemmas.{at_place, has_nothing, is_none_of, within_asks, within_runs}
use Rattle.wc_core.proofs.tests.stage.Stage.close.Goals as goal

pub close-history-requires-after_bounds : goal.close-history-requires-after_bounds
close-history-requires-after_bounds c κs =
    let i = c.self.inside in
    let one : i.core.opening.sessions ≡ 1 = omega (arith, c.self.invariant.asks_long, c.len.ensures, c.if-len-ne2.false) in
    let most : 1 ≤ i.core.opening.sessions = omega (arith, one) in
    let none : held_at 1 i.asks.items ≡ None = at_place i.asks.items 1 c.index.result.now None (within_asks (λ _ _ _ _. Unit {0}) i.core i.asks.items i.runs.items c.self.invariant 1 (omega arith) most) c.index.ensures (is_none_of c.index.result.now (sym c.is_some.ensures ∙ c.if-is_some.false)) in
    let quiet : held_at 1 i.runs.items ≡ None = at_place i.runs.items 1 c.index-else-is_some.result.now None (within_runs (λ _ _ _ _. Unit {0}) i.core i.asks.items i.runs.items c.self.invariant 1 (omega arith) most) c.index-else-is_some.ensures (is_none_of c.index-else-is_some.result.now (sym c.is_some-else-is_some.ensures ∙ c.if-is_some-2.false)) in
    let free : LeavesFree i.core.opening i.core.history 1 = has_nothing (λ _ _ _ _. Unit {0}) i.core i.asks.items i.runs.items c.self.invariant 1 (omega arith) most none quiet in
    let F : ℕ → Type 0 = λ s. LeavesFree i.core.opening i.core.history s in
    all_rest i.core.opening i.core.history most (λ s least few. let same : 1 ≡ s = omega (arith, least, few, one) in subst F same free)
