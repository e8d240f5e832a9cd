-- The step that the core found out is the one that the replay says, for every state that the history leads to.
use Rattle.std.proofs.Common.{◌≡◌, ℕ, ◌||◌, Bool, true, false, not, if◌then◌else◌, map, reverse, List, Option, None, Some, MatchOption, refl, sym, ap, ap₂, subst, ◌∙◌}
use Rattle.std.specs.List.{find}
use Rattle.std.specs.Option.{option_and_then, option_map}
use Rattle.std.proofs.lemmas.Bool.{false≢true}
use Rattle.std.proofs.lemmas.Option.{none-some, same_Some}
use Rattle.wc_model.specs.declared.entries.Entry.{Entry}
use Rattle.wc_model.specs.declared.values.Outcome.{Outcome}
use Rattle.wc_model.specs.declared.values.Outcome.TheVariants.{Memory}
use Rattle.wc_model.specs.Workspace.Edits.{Setting, after, after_edits}
use Rattle.wc_model.specs.Workspace.Closures.{order_of}
use Rattle.wc_model.specs.Workspace.History.{Chain, bound_kind, key_with, state_after}
use Rattle.wc_model.specs.Workspace.States.{Opening, State, Ask, inputs_at, open_ask, stamp_at, within_reach}
use Rattle.wc_model.proofs.StepLemmas.{some_same}
use Rattle.wc_core.specs.declared.answers.Step.{Step}
use Rattle.wc_core.specs.declared.answers.Step.TheVariants.{Answers, Starts, Waits}
use Rattle.wc_core.specs.Answers.{IsNext}
use Rattle.wc_core.specs.Features.{Tells}
use Rattle.wc_core.specs.Fits.{Feature}
use Rattle.wc_core.specs.Inner.Seats.{seat_at}
use Rattle.wc_core.specs.Inner.Steps.{IsStep, bound_key, is_reached, outcome_now, step_is, told}
use Rattle.wc_core.specs.Inner.Works.{runs_with}
use Rattle.wc_core.specs.Inner.Stocks.{IsCore, Stock, keys_at}
use Rattle.wc_core.specs.Turns.{OutcomeIs, Turn, answers, first_missing, next_turn, runner_of_key, starts, unless_running, waits}
use Rattle.wc_core.specs.Views.{Known, KnownTicket, ask_with}
use Rattle.wc_core.proofs.AskLemmas.{IsAsked}
use Rattle.wc_core.proofs.CoreLemmas.{known}
use Rattle.wc_core.proofs.AnswerLemmas.{find_none}
use Rattle.wc_core.proofs.NextLemmas.{bound_is, missing_is, told_is, turn_done, turn_first}

module _ {V : Type 0} (chain : Chain) (feature : Feature V) (o : Opening) (h : List Entry) (d : Stock V) (k : Known) (view : known o h ≡ k) (core : IsCore chain feature o h d) (t : KnownTicket V) (asked : IsAsked feature o core.st d t) where
  abbrev ask : Ask
  ask = ask_with t asked.is_open.kinds

  next_here : (turn : Turn) → next_turn o core.st ask ≡ turn → IsNext (known o h) t.session turn
  next_here turn is st a state open_ =
      let same : core.st ≡ st = some_same core.st st (sym core.kept.state ∙ state) in
      let mine : ask ≡ a = some_same ask a (sym asked.is_open.ask ∙ ap (λ x. open_ask o x t.session) same ∙ open_) in
      ap₂ (λ x b. next_turn o x b) (sym same) (sym mine) ∙ is

  pub is_next : (turn : Turn) → next_turn o core.st ask ≡ turn → IsNext k t.session turn
  is_next turn is = let N : Known → Type 0 = λ x. IsNext x t.session turn in subst N view (next_here turn is)

  inputs_now : t.inputs ≡ after k.opening.image t.at k.history
  inputs_now = asked.is_open.inputs ∙ ap (after_edits o.image t.at) core.kept.edits ∙ ap (λ x. after x.opening.image t.at x.history) view

  pub answers_is : (outcome : Outcome) → next_turn o core.st ask ≡ answers → OutcomeIs chain t.memory t.inputs t.name outcome → IsStep chain k t (Answers outcome)
  answers_is outcome is told = (is_next answers is, subst (λ i. OutcomeIs chain t.memory i t.name outcome) inputs_now told)

  stamp_here : (kind : ℕ) (st : State) → state_after o h ≡ Some st → stamp_at o core.st kind t.at ≡ stamp_at o st kind t.at
  stamp_here kind st state = ap (λ x. stamp_at o x kind t.at) (some_same core.st st (sym core.kept.state ∙ state))

  pub step_from : (kind : ℕ) (step : Step) (turn : Turn) → step_is (kind, stamp_at o core.st kind t.at) step turn → next_turn o core.st ask ≡ turn → IsStep chain k t step
  step_from kind (Answers outcome) turn is next = absurd is
  step_from kind (Starts j stamp) turn is next =
      let S : Known → Type 0 = λ x. (st : State) → state_after x.opening x.history ≡ Some st → stamp ≡ stamp_at x.opening st j t.at in (
        is_next (starts j) (next ∙ is.2),
        subst S view (λ st state. is.1 ∙ stamp_here kind st state ∙ ap (λ i. stamp_at o st i t.at) (sym is.0)),
      )
  step_from kind (Waits session) turn is next = is_next (waits session) (next ∙ is)

-- what is found of an ask's turn
abbrev pub OutIs : {V : Type 0} (chain : Chain) (o : Opening) (st : State) (t : KnownTicket V) (kinds : List ℕ) → Option Outcome → Type 0
OutIs chain o st t kinds None = (t.memory ≡ false) × (within_reach o st (ask_with t kinds) bound_kind ≡ false)
OutIs chain o st t kinds (Some x) = (next_turn o st (ask_with t kinds) ≡ answers) × OutcomeIs chain t.memory t.inputs t.name x

map_is : (own : ℕ → ℕ) (first : Option ℕ) (key : ℕ × ℕ) → option_map (λ (j : ℕ). (j, own j)) first ≡ Some key → (first ≡ Some key.0) × (key ≡ (key.0, own key.0))
map_is own None key is = absurd (none-some key is)
map_is own (Some j) key is =
    let same : (j, own j) ≡ key = same_Some (j, own j) key is in
    (ap (λ (x : ℕ × ℕ). Some x.0) same, sym same ∙ ap (λ (x : ℕ × ℕ). (x.0, own x.0)) same)

map_none : (own : ℕ → ℕ) (first : Option ℕ) → option_map {U = ℕ × ℕ} (λ (j : ℕ). (j, own j)) first ≡ None → first ≡ None
map_none own None is = refl
map_none own (Some j) is = absurd (none-some (j, own j) (sym is))

true_of : (b : Bool) → not b ≡ false → b ≡ true
true_of true is = refl
true_of false is = absurd (false≢true (sym is))

module _ {V : Type 0} (chain : Chain) (feature : Feature V) (outcome_of : V → Option Outcome) (tells : (i : Setting) (name : List ℕ) (v : V) → feature 11 i name v → Tells (chain i name) (outcome_of v))
    (o : Opening) (h : List Entry) (d : Stock V) (k : Known) (view : known o h ≡ k) (core : IsCore chain feature o h d) (t : KnownTicket V) (asked : IsAsked feature o core.st d t) (keys : List (ℕ × ℕ)) (keys_are : keys ≡ (seat_at t.session d.seats).keys) where
  abbrev own : ℕ → ℕ
  own j = stamp_at o core.st j t.at

  abbrev kinds : List ℕ
  kinds = asked.is_open.kinds

  own_keys : keys ≡ keys_at o core.st t.at (order_of o.kinds)
  own_keys = keys_are ∙ asked.seated.keys

  told_case : (out : Option Outcome) → t.memory ≡ false → MatchOption out (within_reach o core.st (ask_with t kinds) bound_kind ≡ false) (λ x. (within_reach o core.st (ask_with t kinds) bound_kind ≡ true) × OutcomeIs chain false t.inputs t.name x) → OutIs chain o core.st t kinds out
  told_case None quiet is = (quiet, is)
  told_case (Some x) quiet is = (turn_done chain feature outcome_of tells o h d core t asked (ap₂ (λ a b. a || b) quiet is.0), subst (λ b. OutcomeIs chain b t.inputs t.name x) (sym quiet) is.1)

  out_case : (memory : Bool) → t.memory ≡ memory → OutIs chain o core.st t kinds (if memory then Some Memory else option_and_then (told outcome_of t.name t.session t.had d.lines) (bound_key keys))
  out_case true is = (turn_done chain feature outcome_of tells o h d core t asked (ap (λ b. b || within_reach o core.st (ask_with t kinds) bound_kind) is), subst (λ b. OutcomeIs chain b t.inputs t.name Memory) (sym is) refl)
  out_case false is =
      let key = ap bound_key own_keys ∙ bound_is chain feature outcome_of tells o h d core t asked in
      subst (λ x. OutIs chain o core.st t kinds (option_and_then (told outcome_of t.name t.session t.had d.lines) x)) (sym key)
      (told_case (told outcome_of t.name t.session t.had d.lines (bound_kind, own bound_kind)) is (told_is chain feature outcome_of tells o h d core t asked))

  out_is : (out : Option Outcome) → out ≡ outcome_now outcome_of t d.lines keys → OutIs chain o core.st t kinds out
  out_is out is = subst (λ x. OutIs chain o core.st t kinds x) (sym is) (out_case t.memory refl)

  pub some_step : (outcome : Outcome) → Some outcome ≡ outcome_now outcome_of t d.lines keys → IsStep chain k t (Answers outcome)
  some_step outcome is = let both = out_is (Some outcome) is in answers_is chain feature o h d k view core t asked outcome both.0 both.1

  pub first_step : (key : ℕ × ℕ) (step : Step) → None ≡ outcome_now outcome_of t d.lines keys → find (λ k. not (is_reached t.name t.had d.lines k)) keys ≡ Some key
      → step_is key step (unless_running key.0 (reverse (runs_with key.0 d.home)) d.out (runner_of_key (key_with key.0 t.name key.1) d.out)) → IsStep chain k t step
  first_step key step none first is =
      let both = out_is None none in
      let found = map_is own (first_missing o core.st (ask_with t kinds) (order_of o.kinds)) key (sym (ap (find (λ k. not (is_reached t.name t.had d.lines k))) own_keys ∙ missing_is chain feature outcome_of tells o h d core t asked) ∙ first) in
      let S : ℕ × ℕ → Type 0 = λ x. step_is x step (unless_running x.0 (reverse (runs_with x.0 d.home)) d.out (runner_of_key (key_with x.0 t.name x.1) d.out)) in
      step_from chain feature o h d k view core t asked key.0 step _ (subst S found.1 is) (turn_first chain feature outcome_of tells o h d core t asked key.0 _ both.0 both.1 found.0 refl)

  pub no_step : None ≡ outcome_now outcome_of t d.lines keys → find (λ k. not (is_reached t.name t.had d.lines k)) keys ≡ None → ⊥
  no_step none first =
      let both = out_is None none in
      let gone = map_none own (first_missing o core.st (ask_with t kinds) (order_of o.kinds)) (sym (ap (find (λ k. not (is_reached t.name t.had d.lines k))) own_keys ∙ missing_is chain feature outcome_of tells o h d core t asked) ∙ first) in
      false≢true (sym both.1 ∙ true_of (within_reach o core.st (ask_with t kinds) bound_kind) (find_none (λ j. not (within_reach o core.st (ask_with t kinds) j)) (order_of o.kinds) bound_kind gone core.runs.bound))
