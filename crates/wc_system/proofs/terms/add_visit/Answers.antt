use Rattle.std.proofs.Common.{refl, ap, ◌+◌, ◌∙◌}
use Rattle.wc_system.specs.declared.terms.Visit.{Visit}
use Rattle.wc_system.specs.Inner.Terms.{visit_sum}
use Rattle.wc_system.proofs.TermLemmas.{visit_push, visit_term}
use Rattle.wc_system.proofs.terms.add_visit.Goals as goal

pub returns-in_ok-push-in-Visits : goal.returns-in_ok-push-in-Visits
returns-in_ok-push-in-Visits c = λ p.
    let v : Visit = record { at = c.in-Visits.at; times = c.in-Visits.times; within = c.items.result } in
    rw c.in_ok-push-in-Visits.ensures.items (visit_push p c.args.visits.now.items v
    ∙ ap (λ n. visit_sum p c.args.visits.now.items + n) (visit_term p v c.args.term.now c.in-Visits.times c.in-Visits.at c.in-Visits.within c.in-Visits.is refl refl c.items.ensures))
