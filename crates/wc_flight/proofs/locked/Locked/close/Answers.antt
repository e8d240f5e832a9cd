use Rattle.std.proofs.Common.{◌≡◌, ℕ, List, map, sym, subst, ◌∙◌}
use Rattle.std.specs.List.{All}
use Rattle.wc_core.specs.Answers.{AreRuns, RunsNothing}
use Rattle.wc_flight.specs.Closing.{AreBack, IsWhole}
use Rattle.wc_flight.proofs.CloseLemmas.{all_back, runs_nothing}
use Rattle.wc_flight.proofs.locked.Locked.close.Goals as goal

pub close-history-requires-after_bounds : goal.close-history-requires-after_bounds
close-history-requires-after_bounds g c κs within =
    let core = c.self.inside.core in
    let whole = subst (λ h. All (IsWhole h) c.args.passes.items) c.self.invariant.seen c.show_to.ensures.whole in
    subst (λ o. RunsNothing o core.history) (sym c.self.invariant.opening)
    (runs_nothing g.W.Work.chain g.N.Named.desk g.N.Named.opening core.history c.self.invariant.legal c.args.passes.items c.requires.passes whole)

pub returns-clause-whole : goal.returns-clause-whole
returns-clause-whole g c = subst (λ h. All (IsWhole h) c.args.passes.items) (c.self.invariant.seen ∙ sym c.close-history.ensures.history) c.show_to.ensures.whole

pub returns-clause-works : goal.returns-clause-works
returns-clause-works g c =
    let core = c.self.inside.core in
    let o = g.N.Named.opening in
    let kind_of = g.W.Work.kind_of in
    let runs_of = g.W.Work.runs_of in
    let whole = subst (λ h. All (IsWhole h) c.args.passes.items) c.self.invariant.seen c.show_to.ensures.whole in
    let works = c.close-history.result.1.items in
    let rests = runs_nothing g.W.Work.chain g.N.Named.desk o core.history c.self.invariant.legal c.args.passes.items c.requires.passes whole in
    let runs = subst (λ x. AreRuns x core.history (map (λ w. (kind_of w, runs_of w)) works)) c.self.invariant.opening c.close-history.ensures.runs in
    subst (λ h. AreBack kind_of runs_of o h works) (sym c.close-history.ensures.history) (all_back kind_of runs_of g.W.Work.chain o core.history c.self.invariant.legal rests works runs)
