-- What is left at the end: the works are the replay's, and no run is out.
use Rattle.std.proofs.Common.{◌≡◌, ◌≤◌, ℕ, true, List, Some, reverse, sym, ap, subst, ◌∙◌, arith}
use Rattle.wc_model.specs.declared.entries.Entry.{Entry}
use Rattle.wc_model.specs.Workspace.History.{Chain, state_after}
use Rattle.wc_model.specs.Workspace.States.{Opening, State, home_of, is_free}
use Rattle.wc_model.proofs.RestLemmas.{nothing_out}
use Rattle.wc_model.proofs.StepLemmas.{some_same}
use Rattle.wc_core.specs.Answers.{AreRuns, LeavesFree, RunsNothing}
use Rattle.wc_core.specs.Fits.{Feature}
use Rattle.wc_core.specs.Inner.Stocks.{IsCore, Stock}
use Rattle.wc_core.specs.Inner.Works.{runs_with}
use Rattle.wc_core.specs.Views.{Known}
use Rattle.wc_core.proofs.CoreLemmas.{known}

pub closed : {V : Type 0} (chain : Chain) (feature : Feature V) (o : Opening) (h : List Entry) (d : Stock V) (k : Known) (works : List (ℕ × ℕ)) → known o h ≡ k → IsCore chain feature o h d → works ≡ d.home → AreRuns k.opening k.history works
closed chain feature o h d k works view core are st state kind =
    let S : Known → Type 0 = λ v. state_after v.opening v.history ≡ Some st in
    let same : core.st ≡ st = some_same core.st st (sym core.kept.state ∙ subst S (sym view) state) in
    ap (λ l. reverse (runs_with kind l)) are ∙ sym (core.parts.works.home_is kind) ∙ ap (λ (s : State). home_of kind s.home) same

-- Where each session is free, no run is out.
pub all_rest : (o : Opening) (h : List Entry) → 1 ≤ o.sessions → ((session : ℕ) → 1 ≤ session → session ≤ o.sessions → LeavesFree o h session) → RunsNothing o h
all_rest o h some free =
    let first : LeavesFree o h 1 = free 1 (omega arith) some in
    record { st = first.st; state = first.state; none = nothing_out o h first.st first.state (λ s least most. same_free s (free s least most) first) } where
      same_free : (s : ℕ) (own : LeavesFree o h s) (first : LeavesFree o h 1) → is_free o first.st s ≡ true
      same_free s own first = let F : State → Type 0 = λ x. is_free o x s ≡ true in subst F (some_same own.st first.st (sym own.state ∙ first.state)) own.free
