-- What an ask does next: what the core finds out is what the replay says.
use Rattle.std.proofs.Common.{◌≡◌, ◌≢◌, ℕ, ◌+◌, ◌<◌, ◌≤◌, ◌&&◌, ◌||◌, ◌==◌, ◌⊎◌, Bool, true, false, not, cond, inl, inr, ⊎_elim, List, [], ◌∷◌, map, reverse, Option, None, Some, IsSome, MatchOption, is_some, refl, sym, ap, ap₂, subst, ◌∙◌, arith, if◌then◌else◌}
use Rattle.std.specs.Global.{Global}
use Rattle.std.specs.List.{find, list_any}
use Rattle.std.specs.Option.{option_and_then, option_map}
use Rattle.std.specs.declared.sync.Arc.{Arc}
use Rattle.std.proofs.lemmas.Bool.{eqb-true, false≢true}
use Rattle.std.proofs.lemmas.Option.{none-some, same_Some}
use Rattle.wc_model.specs.declared.entries.Entry.{Entry}
use Rattle.wc_model.specs.declared.values.Outcome.{Outcome}
use Rattle.wc_model.specs.declared.values.Outcome.TheVariants.{Bound, Fault as Refused, Memory}
use Rattle.wc_model.specs.Workspace.Closures.{has_kind, order_of}
use Rattle.wc_model.specs.Workspace.Edits.{Setting}
use Rattle.wc_model.specs.Workspace.History.{Chain, bound_kind, key_with}
use Rattle.wc_model.specs.Workspace.States.{Opening, State, Ask, ask_at, home_of, in_store, inputs_at, is_stored, key_of, own_run, stamp_at, within_reach}
use Rattle.wc_model.proofs.StepLemmas.{some_same}
use Rattle.wc_core.specs.declared.answers.Step.{Step}
use Rattle.wc_core.specs.declared.answers.Step.TheVariants.{Answers, Starts, Waits}
use Rattle.wc_core.specs.Features.{Tells, arc_at, value_at, value_of}
use Rattle.wc_core.specs.Fits.{Feature}
use Rattle.wc_core.specs.Inner.Lines.{copy_for, row_of}
use Rattle.wc_core.specs.Inner.Moves.{Had, Lines}
use Rattle.wc_core.specs.Inner.Steps.{bound_key, first_of, is_reached, step_is, told}
use Rattle.wc_core.specs.Inner.Stocks.{HasKey, IsCore, Stock, keys_at}
use Rattle.wc_core.specs.Inner.Works.{runs_with}
use Rattle.wc_core.specs.Turns.{OutcomeIs, Turn, answers, first_missing, next_turn, runner_of_key, starts, turn_for, unless_running, waits}
use Rattle.wc_core.specs.Views.{KnownTicket, ask_with}
use Rattle.wc_core.proofs.AskLemmas.{IsAsked}
use Rattle.wc_core.proofs.FindLemmas.{find_map}
use Rattle.wc_core.proofs.PullLemmas.{copy_stored}
use Rattle.wc_core.proofs.AnswerLemmas.{or_later}

-- tests that agree find the same
same_case : {A : Type 0} (a : A) (o p : Option A) (x y : Bool) → x ≡ y → o ≡ p → cond x (Some a) o ≡ cond y (Some a) p
same_case a o p x y is same = ap₂ (λ b q. cond b (Some a) q) is same

find_same : {A : Type 0} (p q : A → Bool) → ((a : A) → p a ≡ q a) → (xs : List A) → find p xs ≡ find q xs
find_same p q same [] = refl
find_same p q same (x ∷ xs) = same_case x (find p xs) (find q xs) (p x) (q x) (same x) (find_same p q same xs)

-- a kind of a list is found in it
own_case : (kind k : ℕ) (ks : List ℕ) (here : Bool) → (k == kind) ≡ here → (here || has_kind kind ks) ≡ true → (has_kind kind ks ≡ true → find (λ j. j == kind) ks ≡ Some kind) → cond here (Some k) (find (λ j. j == kind) ks) ≡ Some kind
own_case kind k ks true is among later = ap Some (eqb-true k kind is)
own_case kind k ks false is among later = later among

find_own : (kind : ℕ) (ks : List ℕ) → has_kind kind ks ≡ true → find (λ j. j == kind) ks ≡ Some kind
find_own kind [] among = absurd (false≢true among)
find_own kind (k ∷ ks) among = own_case kind k ks (k == kind) refl among (λ later. find_own kind ks later)

-- what a value tells
tells_case : (chain : Chain) (inputs : Setting) (name : List ℕ) (reach : Bool) (o : Option Outcome) → reach ≡ true → Tells (chain inputs name) o → MatchOption o (reach ≡ false) (λ out. (reach ≡ true) × OutcomeIs chain false inputs name out)
tells_case chain inputs name reach None is tells = absurd tells
tells_case chain inputs name reach (Some (Bound b)) is tells = (is, tells)
tells_case chain inputs name reach (Some (Refused f)) is tells = (is, tells)
tells_case chain inputs name reach (Some Memory) is tells = absurd tells

value_some : {V : Type 0} (o : Option (Arc V Global)) (v : V) → value_of o ≡ Some v → (a : Arc V Global) × (o ≡ Some a) × (a.value ≡ v)
value_some None v is = absurd (none-some v is)
value_some (Some a) v is = (a, refl, same_Some a.value v is)

value_none : {V : Type 0} (o : Option (Arc V Global)) → value_of o ≡ None → is_some o ≡ false
value_none None is = refl
value_none (Some a) is = absurd (none-some a.value (sym is))

module _ {V : Type 0} (chain : Chain) (feature : Feature V) (outcome_of : V → Option Outcome) (tells : (i : Setting) (name : List ℕ) (v : V) → feature 11 i name v → Tells (chain i name) (outcome_of v))
    (o : Opening) (h : List Entry) (d : Stock V) (core : IsCore chain feature o h d) (t : KnownTicket V) (asked : IsAsked feature o core.st d t) where
  abbrev ask : Ask
  ask = ask_with t asked.is_open.kinds

  abbrev own : ℕ → ℕ
  own j = stamp_at o core.st j t.at

  abbrev order : List ℕ
  order = order_of o.kinds

  stored_is : (j : ℕ) → in_store (key_with j t.name (own j)) (map row_of d.lines) ≡ is_stored o core.st ask j
  stored_is j = sym (ap (in_store (key_with j t.name (own j))) core.parts.lines.rows)

  reached_is : (j : ℕ) → is_reached t.name t.had d.lines (j, own j) ≡ within_reach o core.st ask j
  reached_is j = ap₂ (λ a b. a || b) (sym (asked.is_open.same j)) (stored_is j)

  pub bound_is : bound_key (keys_at o core.st t.at order) ≡ Some (bound_kind, own bound_kind)
  bound_is = find_map (λ (k : ℕ × ℕ). k.0 == 11) (λ j. (j, own j)) order ∙ ap (option_map (λ (j : ℕ). (j, own j))) (find_own 11 order core.runs.bound)

  pub missing_is : find (λ k. not (is_reached t.name t.had d.lines k)) (keys_at o core.st t.at order) ≡ option_map (λ (j : ℕ). (j, own j)) (first_missing o core.st ask order)
  missing_is = find_map (λ (k : ℕ × ℕ). not (is_reached t.name t.had d.lines k)) (λ j. (j, own j)) order ∙ ap (option_map (λ (j : ℕ). (j, own j))) (find_same (λ j. not (is_reached t.name t.had d.lines (j, own j))) (λ j. not (within_reach o core.st ask j)) (λ j. ap not (reached_is j)) order)

  -- the outcome of the bound
  abbrev copy : Option (Arc V Global)
  copy = copy_for t.name bound_kind (own bound_kind) t.session d.lines

  abbrev IsTold : Option Outcome → Type 0
  IsTold out = MatchOption out (within_reach o core.st ask bound_kind ≡ false) (λ x. (within_reach o core.st ask bound_kind ≡ true) × OutcomeIs chain false t.inputs t.name x)

  unstored : arc_at bound_kind t.had ≡ None → copy ≡ None → (is : Bool) → in_store (key_with bound_kind t.name (own bound_kind)) (map row_of d.lines) ≡ is → is ≡ false
  unstored lacks none false is = refl
  unstored lacks none true is =
      absurd (⊎_elim (λ (found : IsSome copy). false≢true (subst (λ c. IsSome c) none found))
      (λ (has : HasKey o core.st t.name bound_kind (own bound_kind) t.session).
      let mine : has.ask ≡ ask = some_same has.ask ask (sym has.asked ∙ asked.asked) in
      false≢true (sym (ap is_some lacks) ∙ sym (asked.is_open.same bound_kind) ∙ ap (λ (a : Ask). has_kind bound_kind a.kinds) (sym mine) ∙ has.has))
      (core.parts.lines.copied t.name bound_kind (own bound_kind) t.session asked.known_is is))

  none_of : {A : Type 0} (c : Option A) → is_some c ≡ false → c ≡ None
  none_of None is = refl
  none_of (Some a) is = absurd (false≢true (sym is))

  stored_case : (v : Option V) → value_of copy ≡ v → value_at bound_kind t.had ≡ None → IsTold (option_and_then outcome_of v)
  stored_case None is lacks =
      let none : arc_at bound_kind t.had ≡ None = none_of (arc_at bound_kind t.had) (value_none (arc_at bound_kind t.had) lacks) in
      ap₂ (λ a b. a || b) (asked.is_open.same bound_kind ∙ ap is_some none)
      (sym (stored_is bound_kind) ∙ unstored none (none_of copy (value_none copy is)) (in_store (key_with bound_kind t.name (own bound_kind)) (map row_of d.lines)) refl)
  stored_case (Some v) is lacks =
      let at = value_some copy v is in
      let right = core.parts.lines.right t.name bound_kind (own bound_kind) t.session at.0 at.1 t.at asked.seated.pinned refl in
      let here : feature bound_kind t.inputs t.name v = subst (λ i. feature bound_kind i t.name v) (sym asked.is_open.inputs) (subst (λ w. feature bound_kind (inputs_at o core.st t.at) t.name w) at.2 right) in
      let stored : in_store (key_with bound_kind t.name (own bound_kind)) (map row_of d.lines) ≡ true = copy_stored t.name bound_kind (own bound_kind) t.session d.lines at.0 core.parts.lines.apart at.1 in
      tells_case chain t.inputs t.name (within_reach o core.st ask bound_kind) (outcome_of v) (or_later (has_kind bound_kind ask.kinds) (is_stored o core.st ask bound_kind) (sym (stored_is bound_kind) ∙ stored)) (tells t.inputs t.name v here)

  held_case : (v : Option V) → value_at bound_kind t.had ≡ v → IsTold (option_and_then outcome_of (first_of v (value_of copy)))
  held_case None is = stored_case (value_of copy) refl is
  held_case (Some v) is =
      let at = value_some (arc_at bound_kind t.had) v is in
      let here : feature bound_kind t.inputs t.name v = subst (λ w. feature bound_kind t.inputs t.name w) at.2 (asked.is_open.features bound_kind at.0 at.1) in
      tells_case chain t.inputs t.name (within_reach o core.st ask bound_kind) (outcome_of v) (ap (λ b. b || is_stored o core.st ask bound_kind) (asked.is_open.same bound_kind ∙ ap is_some at.1)) (tells t.inputs t.name v here)

  pub told_is : IsTold (told outcome_of t.name t.session t.had d.lines (bound_kind, own bound_kind))
  told_is = held_case (value_at bound_kind t.had) refl

  -- the turn of the first kind out of reach
  turn_when : (done : Bool) → (t.memory || within_reach o core.st ask bound_kind) ≡ done → (if done then answers else turn_for o core.st ask (first_missing o core.st ask order)) ≡ next_turn o core.st ask
  turn_when done is = ap (λ b. if b then answers else turn_for o core.st ask (first_missing o core.st ask order)) (sym is)

  pub turn_done : (t.memory || within_reach o core.st ask bound_kind) ≡ true → next_turn o core.st ask ≡ answers
  turn_done is = sym (turn_when true is)

  pub turn_first : (kind : ℕ) (turn : Turn) → t.memory ≡ false → within_reach o core.st ask bound_kind ≡ false → first_missing o core.st ask order ≡ Some kind
      → unless_running kind (reverse (runs_with kind d.home)) d.out (runner_of_key (key_with kind t.name (own kind)) d.out) ≡ turn → next_turn o core.st ask ≡ turn
  turn_first kind turn quiet beyond first is =
      sym (turn_when false (ap₂ (λ a b. a || b) quiet beyond)) ∙ ap (turn_for o core.st ask) first
      ∙ ap₂ (λ hs out. unless_running kind hs out (runner_of_key (key_with kind t.name (own kind)) out)) (core.parts.works.home_is kind) core.parts.works.out_is ∙ is
