use Rattle.std.proofs.Common.{◌≡◌, ◌≤◌, ℕ, Some, sym, ap, subst, ◌∙◌, arith}
use Rattle.wc_core.specs.Answers.{KeepsOthers}
use Rattle.wc_core.specs.Inner.Stages.{held_at}
use Rattle.wc_core.specs.Views.{Known, KnownTicket}
use Rattle.wc_core.proofs.StageLemmas.{at_place, landed, within_runs}
use Rattle.wc_core.proofs.tests.stage.Stage.land.Goals as goal

pub invariant_of-self-2 : goal.invariant_of-self-2
invariant_of-self-2 c =
    let i = c.self.inside in
    let p : ℕ = c.in_ok-place.place in
    let least : 1 ≤ p = omega (arith, c.in_ok-place.ensures.0, c.in_ok-place.ensures.1) in
    let most : p ≤ i.core.opening.sessions = omega (arith, c.in_ok-place.ensures.0, c.in_ok-place.ensures.2, ap (λ (k : Known). k.opening.sessions) c.self.view_is) in
    let has : held_at p i.runs.items ≡ Some c.in-Some.flight = at_place i.runs.items p c.index_mut.result.now (Some c.in-Some.flight) (within_runs (λ _ _ _ _. Unit {0}) i.core i.asks.items i.runs.items c.self.invariant p least most) c.index_mut.ensures.value (sym c.take.ensures.value ∙ c.in-Some.is) in
    let same : c.run.result.ticket.session ≡ c.in-Some.flight.ticket.session = ap (λ (t : KnownTicket ℕ). t.session) c.run.ensures.ticket in
    let K : ℕ → Type 0 = λ s. KeepsOthers {V = ℕ} (λ _ _ _ _. Unit {0}) i.core c.give-ticket.new.self s in
    rw c.take.ensures.after
    (landed (λ _ _ _ _. Unit {0}) i.core i.asks.items i.runs.items c.self.invariant p least most c.give-ticket.new.self c.give-ticket.result c.in-Some.flight has c.give-ticket.ensures.goes.opening (subst K same c.give-ticket.ensures.goes.others)
    c.give-ticket.ensures.answer.fits (c.give-ticket.ensures.answer.same.session ∙ same))
