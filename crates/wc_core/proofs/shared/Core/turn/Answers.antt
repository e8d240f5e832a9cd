use Rattle.std.proofs.Common.{◌≡◌, ◌<◌, length, reverse, sym, ap, subst, ◌∙◌}
use Rattle.std.specs.Option.{option_map}
use Rattle.wc_model.specs.Workspace.History.{key_with}
use Rattle.wc_core.specs.Inner.Seats.{seat_at}
use Rattle.wc_core.specs.Inner.Steps.{step_is}
use Rattle.wc_core.specs.Inner.Works.{runs_with}
use Rattle.wc_core.specs.Turns.{runner_of_key, unless_running}
use Rattle.wc_core.specs.Views.{KnownTicket}
use Rattle.wc_core.proofs.AskLemmas.{resting}
use Rattle.wc_core.proofs.CoreLemmas.{core_legal}
use Rattle.wc_core.proofs.TurnIsLemmas.{first_step, no_step, some_step}
use Rattle.wc_core.proofs.shared.Core.turn.Goals as goal

pub keys-keys-requires : goal.keys-keys-requires
keys-keys-requires g c =
    let asked = (resting g.W.Work.chain g.W.Work.is_feature _ _ _ _ c.self.view_is c.self.invariant.0 c.args.ticket.now c.requires).0 in
    subst (λ t. t.session < length c.self.inside.seats) (sym c.ticket.view_is) asked.place_seats

pub returns-in-Some-clause-step : goal.returns-in-Some-clause-step
returns-in-Some-clause-step g c =
    let asked = (resting g.W.Work.chain g.W.Work.is_feature _ _ _ _ c.self.view_is c.self.invariant.0 c.args.ticket.now c.requires).0 in
    let keys = c.keys-keys.ensures ∙ ap (λ t. (seat_at t.session c.self.inside.seats).keys) c.ticket.view_is in
    some_step g.W.Work.chain g.W.Work.is_feature g.W.Work.outcome_of g.met.W.Work.tells _ _ _ _ c.self.view_is c.self.invariant.0 c.args.ticket.now asked c.keys-keys.result.now keys c.in-Some.outcome (sym c.in-Some.is ∙ c.outcome.ensures)

pub returns-in-Some-missing-clause-step : goal.returns-in-Some-missing-clause-step
returns-in-Some-missing-clause-step g c =
    let asked = (resting g.W.Work.chain g.W.Work.is_feature _ _ _ _ c.self.view_is c.self.invariant.0 c.args.ticket.now c.requires).0 in
    let keys = c.keys-keys.ensures ∙ ap (λ t. (seat_at t.session c.self.inside.seats).keys) c.ticket.view_is in
    first_step g.W.Work.chain g.W.Work.is_feature g.W.Work.outcome_of g.met.W.Work.tells _ _ _ _ c.self.view_is c.self.invariant.0 c.args.ticket.now asked c.keys-keys.result.now keys c.in-Some-missing.key.now c.step_for.result (sym c.in-None.is ∙ c.outcome.ensures) (sym c.missing.ensures ∙ ap (option_map (λ k. k.now)) c.in-Some-missing.is)
    (subst (λ n. step_is c.in-Some-missing.key.now c.step_for.result (unless_running c.in-Some-missing.key.now.0 (reverse (runs_with c.in-Some-missing.key.now.0 c.self.inside.works.home)) c.self.inside.works.out (runner_of_key (key_with c.in-Some-missing.key.now.0 n c.in-Some-missing.key.now.1) c.self.inside.works.out))) (c.items.ensures ∙ c.deref.ensures ∙ ap (λ (t : KnownTicket g.row.W-Value.Denot). t.name) c.ticket.view_is) c.step_for.ensures)

pub returns-in-None-missing-clause-step : goal.returns-in-None-missing-clause-step
returns-in-None-missing-clause-step g c =
    let asked = (resting g.W.Work.chain g.W.Work.is_feature _ _ _ _ c.self.view_is c.self.invariant.0 c.args.ticket.now c.requires).0 in
    let keys = c.keys-keys.ensures ∙ ap (λ t. (seat_at t.session c.self.inside.seats).keys) c.ticket.view_is in
    absurd (no_step g.W.Work.chain g.W.Work.is_feature g.W.Work.outcome_of g.met.W.Work.tells _ _ _ _ c.self.view_is c.self.invariant.0 c.args.ticket.now asked c.keys-keys.result.now keys (sym c.in-None.is ∙ c.outcome.ensures) (sym c.missing.ensures ∙ ap (option_map (λ k. k.now)) c.in-None-missing.is))

pub returns-in-Some-clause-legal : goal.returns-in-Some-clause-legal
returns-in-Some-clause-legal g c = core_legal _ _ _ _ _ _ c.self.view_is c.self.invariant.0

pub returns-in-Some-missing-clause-legal : goal.returns-in-Some-missing-clause-legal
returns-in-Some-missing-clause-legal g c = core_legal _ _ _ _ _ _ c.self.view_is c.self.invariant.0

pub returns-in-None-missing-clause-legal : goal.returns-in-None-missing-clause-legal
returns-in-None-missing-clause-legal g c = core_legal _ _ _ _ _ _ c.self.view_is c.self.invariant.0
