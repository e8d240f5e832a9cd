use Rattle.std.proofs.Common.{◌≡◌, ◌≤◌, ℕ, Some, sym, ap, ◌∙◌, arith}
use Rattle.wc_core.specs.Inner.Stages.{held_at}
use Rattle.wc_core.specs.Views.{Known}
use Rattle.wc_core.proofs.StageLemmas.{answered, at_place, started, waited, within_asks}
use Rattle.wc_core.proofs.tests.stage.Stage.turn.Goals as goal

pub invariant_of-self-in-Done : goal.invariant_of-self-in-Done
invariant_of-self-in-Done c =
    let i = c.self.inside in
    let p : ℕ = c.in_ok-place.place in
    let least : 1 ≤ p = omega (arith, c.in_ok-place.ensures.0, c.in_ok-place.ensures.1) in
    let most : p ≤ i.core.opening.sessions = omega (arith, c.in_ok-place.ensures.0, c.in_ok-place.ensures.2, ap (λ (k : Known). k.opening.sessions) c.self.view_is) in
    let has : held_at p i.asks.items ≡ Some c.in-Some.ticket = at_place i.asks.items p c.index_mut.result.now (Some c.in-Some.ticket) (within_asks (λ _ _ _ _. Unit {0}) i.core i.asks.items i.runs.items c.self.invariant p least most) c.index_mut.ensures.value (sym c.take.ensures.value ∙ c.in-Some.is) in
    rw c.take.ensures.after (answered (λ _ _ _ _. Unit {0}) i.core i.asks.items i.runs.items c.self.invariant p least most c.next.new.self c.in-Some.ticket has c.next.ensures.goes.opening c.next.ensures.goes.others c.in-Done.ensures.answer.free)

pub invariant_of-self-in-Run : goal.invariant_of-self-in-Run
invariant_of-self-in-Run c =
    let i = c.self.inside in
    let p : ℕ = c.in_ok-place.place in
    let least : 1 ≤ p = omega (arith, c.in_ok-place.ensures.0, c.in_ok-place.ensures.1) in
    let most : p ≤ i.core.opening.sessions = omega (arith, c.in_ok-place.ensures.0, c.in_ok-place.ensures.2, ap (λ (k : Known). k.opening.sessions) c.self.view_is) in
    let has : held_at p i.asks.items ≡ Some c.in-Some.ticket = at_place i.asks.items p c.index_mut.result.now (Some c.in-Some.ticket) (within_asks (λ _ _ _ _. Unit {0}) i.core i.asks.items i.runs.items c.self.invariant p least most) c.index_mut.ensures.value (sym c.take.ensures.value ∙ c.in-Some.is) in
    rw c.take.ensures.after (started (λ _ _ _ _. Unit {0}) i.core i.asks.items i.runs.items c.self.invariant p least most c.next.new.self c.in-Some.ticket c.in-Run.flight has c.next.ensures.goes.opening c.next.ensures.goes.others c.in-Run.ensures.answer.fits c.in-Run.ensures.answer.same.session)

pub invariant_of-self-in-Busy : goal.invariant_of-self-in-Busy
invariant_of-self-in-Busy c =
    let i = c.self.inside in
    let p : ℕ = c.in_ok-place.place in
    let least : 1 ≤ p = omega (arith, c.in_ok-place.ensures.0, c.in_ok-place.ensures.1) in
    let most : p ≤ i.core.opening.sessions = omega (arith, c.in_ok-place.ensures.0, c.in_ok-place.ensures.2, ap (λ (k : Known). k.opening.sessions) c.self.view_is) in
    let has : held_at p i.asks.items ≡ Some c.in-Some.ticket = at_place i.asks.items p c.index_mut.result.now (Some c.in-Some.ticket) (within_asks (λ _ _ _ _. Unit {0}) i.core i.asks.items i.runs.items c.self.invariant p least most) c.index_mut.ensures.value (sym c.take.ensures.value ∙ c.in-Some.is) in
    rw c.take.ensures.after (waited (λ _ _ _ _. Unit {0}) i.core i.asks.items i.runs.items c.self.invariant p least most c.next.new.self c.in-Some.ticket c.in-Busy.ticket has c.in-Busy.ensures.answer.back_is c.in-Busy.ensures.answer.same)
