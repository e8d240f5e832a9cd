-- At the end no session has an open ask, so no run is out and all works are back.
use Rattle.std.proofs.Common.{◌≡◌, ℕ, ◌+◌, ◌-◌, ◌<◌, ◌≤◌, ◌==◌, Bool, true, false, List, [], ◌∷◌, Some, filter, length, map, refl, sym, ap, subst, ◌∙◌, arith, get_or, if◌then◌else◌}
use Rattle.std.specs.List.{All, sum}
use Rattle.std.proofs.lemmas.List.{ext_get_or, get_or-map, length-map}
use Rattle.std.proofs.lemmas.List.FromFn.{get_or-range_with_len, length-range_with_len}
use Rattle.atomic_table.specs.Seated.{TableId}
use Rattle.wc_model.specs.declared.entries.Entry.{Entry}
use Rattle.wc_model.specs.Workspace.History.{Chain, IsLegal, state_after}
use Rattle.wc_model.specs.Workspace.States.{Opening, State, is_free}
use Rattle.wc_model.proofs.RestLemmas.{nothing_out}
use Rattle.wc_model.proofs.StepLemmas.{some_same}
use Rattle.wc_core.specs.Answers.{AreRuns, LeavesFree, RunsNothing}
use Rattle.wc_core.specs.Inner.Works.{is_of, runs_with}
use Rattle.wc_pass.specs.Known.{KnownPass}
use Rattle.wc_flight.specs.Calls.{IsReady}
use Rattle.wc_flight.specs.Closing.{AreBack, IsWhole, of_kind}
use Rattle.wc_flight.specs.Openings.{AllStay, AreAll}
use Rattle.wc_flight.proofs.OthersLemmas.{free_later, last_state}
use Rattle.wc_flight.proofs.StartsLemmas.{back_count, back_runs}

-- the pass of a session stands at its number
module _ (chain : Chain) (own : TableId) (o : Opening) (history : List Entry) (legal : IsLegal chain o history) (passes : List KnownPass) (all : AreAll own o passes) (whole : All (IsWhole history) passes) where
  pass_free : (pass : KnownPass) → IsReady own o pass → IsWhole history pass → LeavesFree o history pass.session
  pass_free pass ready is = free_later chain o pass.session pass.seen history is.before is.entries legal ready.free

  long : length passes ≡ o.sessions
  long = sym (length-map passes (λ (p : KnownPass). p.session)) ∙ ap length all.numbered ∙ length-range_with_len 1 o.sessions

  pass_at : (k : ℕ) (d : KnownPass) → k < o.sessions → (get_or passes k d).session ≡ 1 + k
  pass_at k d within =
      let here : k < length passes = let is = long in omega (arith, is, within) in
      sym (get_or-map (λ (p : KnownPass). p.session) passes k d d.session here)
      ∙ ap (λ l. get_or l k d.session) all.numbered
      ∙ get_or-range_with_len 1 o.sessions k d.session within

  free_at : (k : ℕ) (d : KnownPass) → k < o.sessions → LeavesFree o history (1 + k)
  free_at k d within =
      let here : k < length passes = let is = long in omega (arith, is, within) in
      subst (LeavesFree o history) (pass_at k d within) (pass_free (get_or passes k d) (all.ready k d here) (whole k d here))

  free_after : (st : State) → state_after o history ≡ Some st → (s : ℕ) → 1 ≤ s → s ≤ o.sessions → is_free o st s ≡ true
  free_after st state s one within =
      let d : KnownPass = record { desk = own; seen = []; session = 0 } in
      let at : 1 + (s - 1) ≡ s = omega (arith, one) in
      let leaves : LeavesFree o history s = subst (LeavesFree o history) at (free_at (s - 1) d (omega (arith, one, within))) in
      let F : State → Type 0 = λ x. is_free o x s ≡ true in
      subst F (some_same leaves.st st (sym leaves.state ∙ state)) leaves.free

  pub runs_nothing : RunsNothing o history
  runs_nothing =
      let last = last_state chain o history legal in
      record { st = last.0; state = last.1; none = nothing_out o history last.0 last.1 (free_after last.0 last.1) }

-- All works are back.
module _ {W : Type 0} (kind_of runs_of : W → ℕ) (kind : ℕ) where
  abbrev told : List W → List (ℕ × ℕ)
  told works = map (λ w. (kind_of w, runs_of w)) works

  told_case : (w : W) (ws : List W) (here : Bool) → runs_with kind (told ws) ≡ map runs_of (of_kind kind_of kind ws)
      → map (λ (x : ℕ × ℕ). x.1) (if here then (kind_of w, runs_of w) ∷ filter (is_of kind) (told ws) else filter (is_of kind) (told ws)) ≡ map runs_of (if here then w ∷ of_kind kind_of kind ws else of_kind kind_of kind ws)
  told_case w ws true later = ap (λ l. runs_of w ∷ l) later
  told_case w ws false later = later

  told_works : (works : List W) → runs_with kind (told works) ≡ map runs_of (of_kind kind_of kind works)
  told_works [] = refl
  told_works (w ∷ ws) = told_case w ws (kind_of w == kind) (told_works ws)

pub all_back : {W : Type 0} (kind_of runs_of : W → ℕ) (chain : Chain) (o : Opening) (history : List Entry) → IsLegal chain o history → RunsNothing o history
    → (works : List W) → AreRuns o history (map (λ w. (kind_of w, runs_of w)) works) → AreBack kind_of runs_of o history works
all_back kind_of runs_of chain o history legal rests works are =
    let pairs : List (ℕ × ℕ) = map (λ w. (kind_of w, runs_of w)) works in
    record {
      count = λ kind. sym (length-map (of_kind kind_of kind works) runs_of) ∙ ap length (sym (told_works kind_of runs_of kind works)) ∙ back_count chain o history legal rests pairs are kind;
      runs = λ kind. ap sum (sym (told_works kind_of runs_of kind works)) ∙ back_runs chain o history legal rests pairs are kind;
    }

-- What the calls of sessions leave of all passes.
pub all_stay : (own : TableId) (o : Opening) (old new : List KnownPass) → length old ≡ length new
    → AllStay own o old new → AreAll own o old → AreAll own o new
all_stay own o old new long each all =
    let s : KnownPass → ℕ = λ p. p.session in
    let d : KnownPass = record { desk = own; seen = []; session = 0 } in
    let same : map s new ≡ map s old =
    ext_get_or 0 (map s new) (map s old) (length-map new s ∙ sym long ∙ sym (length-map old s))
    (λ k within.
    let count = length-map new s in
    let here : k < length old = omega (arith, within, count, long) in
    get_or-map s new k d 0 (omega (arith, within, count)) ∙ (each k d here).1 ∙ sym (get_or-map s old k d 0 here)) in
    record { numbered = same ∙ all.numbered; ready = λ k e within. (each k e (omega (arith, long, within))).0 }
