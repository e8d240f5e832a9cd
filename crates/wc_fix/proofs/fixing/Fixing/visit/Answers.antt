use Rattle.std.proofs.Common.{◌≡◌, ℕ, ◌∙◌, Bool, List, ap, subst, sym}
use Rattle.wc_fix.specs.Inner.Fixing.{IsVisit}
use Rattle.wc_model.specs.Cache.Ages.{fetched}
use Rattle.wc_fix.proofs.RaisingLemmas.{read_held, waits_within}
use Rattle.wc_fix.proofs.VisitLemmas.{visit_begins, visit_ends}
use Rattle.wc_fix.proofs.fixing.Fixing.visit.Goals as goal

pub bring_along-requires-clause-alike : goal.bring_along-requires-clause-alike
bring_along-requires-clause-alike g c = λ p b there.
    let x = g.L.Lattice in
    let held = read_held c.args.self.now.states.items c.args.node c.index.result.now c.requires.held c.in-Some.state c.index.ensures c.in-Some.is c.requires.holds in
    let same = c.requires.same p b there in
    (same.0 ∙ ap x.shape held ∙ sym c.in_ok-after.ensures.alike.0, same.1 ∙ ap x.lines held ∙ sym c.in_ok-after.ensures.alike.1)

pub returns-in_ok-bring_along-clause-kept : goal.returns-in_ok-bring_along-clause-kept
returns-in_ok-bring_along-clause-kept g c = λ problem before at taken old.
    let x = g.L.Lattice in
    let laws = g.met.L.Lattice in
    let states = c.args.self.now.states.items in
    let node : ℕ = c.args.node in
    let own = c.args.steps.now in
    let after = c.in_ok-after.after in
    let new = c.bring_along.new.self in
    let held = read_held states node c.index.result.now c.requires.held c.in-Some.state c.index.ensures c.in-Some.is c.requires.holds in
    let is : x.state after ≡ fetched x.precise x.accessed c.args.line (x.state c.requires.held) = c.in_ok-after.ensures.state ∙ ap (λ (a : g.row.L.Denot). fetched x.precise x.accessed c.args.line (x.state a)) (sym held) in
    let begins = visit_begins x laws.precise_refl laws.precise_trans laws.access_keeps problem node own c.args.line c.requires.held after states before at (waits_within before node taken.0) c.requires.holds is old in
    let begun = subst (λ (waits : List Bool). IsVisit x problem node after own states waits) (sym taken.1) begins in
    visit_ends x laws.precise_refl laws.precise_trans laws.access_keeps problem node after new.states.items new.waiting (c.in_ok-bring_along.ensures.visit problem node begun)
