use Rattle.std.proofs.Common.{◌≡◌, ◌∷◌, [], List, ap, subst, sym, ◌∙◌, arith}
use Rattle.wc_core.specs.Answers.{AreRuns, LeavesFree, RunsNothing}
use Rattle.wc_model.specs.declared.entries.Entry.{Entry}
use Rattle.wc_model.specs.Workspace.States.{Opening}
use Rattle.wc_session.specs.Alone.{IsAlone}
use Rattle.wc_session.proofs.AloneLemmas.{alone_rests}
use Rattle.wcet.proofs.OneWorkLemmas.{runs_left, work_left}
use Rattle.wcet.proofs.running.run_core.Goals as goal

-- its one session is free, so no run is out
rests : (now o : Opening) (h : List Entry) → now ≡ o → IsAlone o → LeavesFree now h 1 → RunsNothing now h
rests now o h same alone free = alone_rests now h (subst IsAlone (sym same) alone) free

pub close-history-requires-after_bounds : goal.close-history-requires-after_bounds
close-history-requires-after_bounds g c κs within = rests _ _ _ c.session-source.ensures.opening c.requires.alone c.session-source.ensures.free

pub returns-clause-rests : goal.returns-clause-rests
returns-clause-rests g c =
    let none = rests _ _ _ c.session-source.ensures.opening c.requires.alone c.session-source.ensures.free in
    subst (λ (o : Opening). RunsNothing o c.close-history.result.0.items) c.session-source.ensures.opening
    (subst (RunsNothing c.session-source.new.core.opening) (sym c.close-history.ensures.history) none)

-- so the one work is left, and its runs are those of the replay
pub index-requires : goal.index-requires
index-requires g c =
    let none = rests _ _ _ c.session-source.ensures.opening c.requires.alone c.session-source.ensures.free in
    let works = ap (λ (o : Opening). o.works) c.session-source.ensures.opening ∙ c.requires.works in
    let some = work_left g.W.Work.kind_of g.W.Work.runs_of c.close-history.result.1.items c.session-source.new.core.opening c.session-source.new.core.history works none c.close-history.ensures.runs in
    omega (arith, some, c.close-history.result.1.ok.0)

pub returns-clause-runs : goal.returns-clause-runs
returns-clause-runs g c =
    let none = rests _ _ _ c.session-source.ensures.opening c.requires.alone c.session-source.ensures.free in
    let works = ap (λ (o : Opening). o.works) c.session-source.ensures.opening ∙ c.requires.works in
    let runs = runs_left g.W.Work.kind_of g.W.Work.runs_of c.close-history.result.1.items c.session-source.new.core.opening c.session-source.new.core.history works none c.close-history.ensures.runs
    c.index.result.now c.runs.result (c.runs.ensures ∙ ap g.W.Work.runs_of c.index.ensures) in
    subst (λ (o : Opening). AreRuns o c.close-history.result.0.items ((11, c.runs.result) ∷ [])) c.session-source.ensures.opening
    (subst (λ (h : List Entry). AreRuns c.session-source.new.core.opening h ((11, c.runs.result) ∷ [])) (sym c.close-history.ensures.history) runs)
