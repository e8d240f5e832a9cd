use Rattle.std.proofs.Common.{◌≡◌, ◌≤◌, ℕ, None, sym, ap, subst, ◌∙◌, arith}
use Rattle.wc_core.specs.Answers.{KeepsOthers}
use Rattle.wc_core.specs.Inner.Stages.{held_at}
use Rattle.wc_core.specs.Views.{Known}
use Rattle.wc_core.proofs.StageLemmas.{at_place, is_none_of, pinned, within_asks, within_runs}
use Rattle.wc_core.proofs.tests.stage.Stage.pin.Goals as goal

pub invariant_of-self-2 : goal.invariant_of-self-2
invariant_of-self-2 c =
    let i = c.self.inside in
    let p : ℕ = c.in_ok-place.place in
    let least : 1 ≤ p = omega (arith, c.in_ok-place.ensures.0, c.in_ok-place.ensures.1) in
    let most : p ≤ i.core.opening.sessions = omega (arith, c.in_ok-place.ensures.0, c.in_ok-place.ensures.2, ap (λ (k : Known). k.opening.sessions) c.self.view_is) in
    let none : held_at p i.asks.items ≡ None = at_place i.asks.items p c.index.result.now None (within_asks (λ _ _ _ _. Unit {0}) i.core i.asks.items i.runs.items c.self.invariant p least most) c.index.ensures (is_none_of c.index.result.now (sym c.is_some.ensures ∙ c.if-is_some.false)) in
    let quiet : held_at p i.runs.items ≡ None = at_place i.runs.items p c.index-else-is_some.result.now None (within_runs (λ _ _ _ _. Unit {0}) i.core i.asks.items i.runs.items c.self.invariant p least most) c.index-else-is_some.ensures (is_none_of c.index-else-is_some.result.now (sym c.is_some-else-is_some.ensures ∙ c.if-is_some-2.false)) in
    let K : ℕ → Type 0 = λ s. KeepsOthers {V = ℕ} (λ _ _ _ _. Unit {0}) i.core c.pin.new.self s in
    pinned (λ _ _ _ _. Unit {0}) i.core i.asks.items i.runs.items c.self.invariant p least most c.pin.new.self c.in_ok-ticket.ticket none quiet c.pin.ensures.goes.opening (subst K (sym c.in_ok-place.ensures.0) c.pin.ensures.goes.others)
    c.in_ok-ticket.ensures.ok.fits (c.in_ok-ticket.ensures.ok.session_is ∙ sym c.in_ok-place.ensures.0)
