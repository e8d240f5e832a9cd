-- What the next entry of a session is: the state alone says it, but for the requests and the outcomes.
use Rattle.std.proofs.Common.{◌≡◌, ℕ, ◌+◌, Bool, true, false, not, cond, ◌&&◌, ◌||◌, ◌==◌, List, [], ◌∷◌, take, find, Option, None, Some, is_none, refl, sym, ap, subst, ◌∙◌, eqb-true, one-add, if◌then◌else◌}
use Rattle.std.specs.Cmp.Lexicographic.{same_text}
use Rattle.std.specs.List.{list_all, prefix_len}
use Rattle.std.proofs.lemmas.Bool.{and_parts, not-true}
use Rattle.wc_model.specs.declared.entries.End.{End}
use Rattle.wc_model.specs.declared.entries.End.TheVariants.{Kept, Dropped, Memory}
use Rattle.wc_model.specs.declared.entries.Entry.{Entry}
use Rattle.wc_model.specs.declared.entries.Entry.TheVariants.{Edit as EditEntry, NoFact, Pin, Start, Finish, Answer, List as ListEntry}
use Rattle.wc_model.specs.declared.inputs.Edit.{Edit}
use Rattle.wc_model.specs.declared.inputs.Edit.TheVariants.{Add, Drop, Hardware as Timing}
use Rattle.wc_model.specs.declared.values.Outcome.{Outcome}
use Rattle.wc_model.specs.declared.values.Outcome.TheVariants.{Bound, Fault, Memory as NoMemory}
use Rattle.wc_model.specs.Workspace.Closures.{has_kind, order_of}
use Rattle.wc_model.specs.Workspace.Entries.{session_of}
use Rattle.wc_model.specs.Workspace.History.{Chain, IsRight, step, before, key_with, can_edit, is_live, may_edit, after_edit, may_refuse, may_pin, after_pin, may_list, right_end, is_memory, right_outcome, bound_kind}
use Rattle.wc_model.specs.Workspace.States.{Opening, Key, State, Run, Ask, is_session, is_free, is_out, ask_at, open_ask, own_run, count_of, inputs_at, stamp_at, same_name, same_key, within_reach}
use Rattle.wc_model.proofs.StepLemmas.{allowed, started, finished, answered}
use Rattle.wc_laws.specs.OneSession.{Request, change, bound, facts, request_of, IsCalm}

-- Where a session stands: it has no open ask, a run of its ask is out, or it has the ask alone.
pub data Place : Type 0 where
  free : Place
  away : Run → Place
  asks : Ask → Bool → Place

abbrev pub place_for : Opening → State → Option Ask → Option Run → Place
place_for o st None run = free
place_for o st (Some ask) (Some run) = away run
place_for o st (Some ask) None = asks ask (within_reach o st ask bound_kind)

abbrev pub place_of : Opening → State → ℕ → Place
place_of o st session = place_for o st (open_ask o st session) (own_run session st.out)

-- only a drop is refused
abbrev pub changed : ℕ → ℕ → Edit → Bool → Entry
changed session count (Drop number) false = NoFact session number count
changed session count edit can = EditEntry session (count + 1) edit

abbrev pub entry_for : Opening → State → ℕ → Request → Entry
entry_for o st session (change edit) = changed session (count_of st) edit (can_edit edit (inputs_at o st (count_of st)))
entry_for o st session (bound name) = Pin session name (count_of st)
entry_for o st session facts = ListEntry session (count_of st)

abbrev pub end_for : Bool → End
end_for true = Kept
end_for false = Dropped

abbrev pub end_of : Opening → State → Key → End
end_of o st key = end_for (key.stamp == stamp_at o st key.kind (count_of st))

abbrev pub first_missing : Opening → State → Ask → Option ℕ
first_missing o st ask = find (λ k. not (within_reach o st ask k)) (order_of o.kinds)

abbrev pub IsNext : Chain → Opening → State → ℕ → Entry → Place → Type 0
IsNext chain o st session e free = (r : Request) × (request_of e ≡ r ∷ []) × (e ≡ entry_for o st session r)
IsNext chain o st session e (away run) = e ≡ Finish session run.key.kind run.key.name run.key.stamp (end_of o st run.key)
IsNext chain o st session e (asks ask true) = (outcome : Outcome) × chain (inputs_at o st ask.at) ask.name outcome × (e ≡ Answer session ask.name ask.at outcome)
IsNext chain o st session e (asks ask false) = (kind : ℕ) × (first_missing o st ask ≡ Some kind) × (e ≡ Start session kind ask.name (stamp_at o st kind ask.at))

-- The session has no open ask.

closed : (known : Bool) (asked : Option Ask) → (known && is_none asked) ≡ true → (if known then asked else None) ≡ None
closed true None is = refl
closed true (Some ask) is = absurd (cc)
closed false asked is = refl

pub unasked : (o : Opening) (st : State) (session : ℕ) → is_free o st session ≡ true → open_ask o st session ≡ None
unasked o st session is = closed (is_session o session) (ask_at session st.asks) is

module _ (chain : Chain) (o : Opening) (st : State) (session : ℕ) where
  at_free : (e : Entry) → is_free o st session ≡ true → IsNext chain o st session e free → IsNext chain o st session e (place_of o st session)
  at_free e is next =
      let P : Option Ask → Type 0 = λ a. IsNext chain o st session e (place_for o st a (own_run session st.out)) in
      subst P (sym (unasked o st session is)) next

  changed_can : (count : ℕ) (edit : Edit) → changed session count edit true ≡ EditEntry session (count + 1) edit
  changed_can count (Add fact) = refl
  changed_can count (Drop number) = refl
  changed_can count (Timing hardware) = refl

  next_edit : (new : State) (count : ℕ) (edit : Edit) → step o st (EditEntry session count edit) ≡ Some new → IsNext chain o st session (EditEntry session count edit) (place_of o st session)
  next_edit new count edit goes =
      let may = allowed (may_edit o st session count edit) (after_edit o st edit) new goes in
      let whole = and_parts (is_free o st session && count == count_of st + 1) (can_edit edit (inputs_at o st (count_of st))) may.0 in
      let front = and_parts (is_free o st session) (count == count_of st + 1) whole.0 in
      let counted : count ≡ count_of st + 1 = eqb-true _ _ front.1 in
      at_free (EditEntry session count edit) front.0
      (change edit, refl, ap (λ n. EditEntry session n edit) counted ∙ sym (ap (changed session (count_of st) edit) whole.1 ∙ changed_can (count_of st) edit))

  next_refused : (new : State) (number at : ℕ) → step o st (NoFact session number at) ≡ Some new → IsNext chain o st session (NoFact session number at) (place_of o st session)
  next_refused new number at goes =
      let may = allowed (may_refuse o st session number at) st new goes in
      let whole = and_parts (is_free o st session && at == count_of st) (not (is_live number (inputs_at o st (count_of st)))) may.0 in
      let front = and_parts (is_free o st session) (at == count_of st) whole.0 in
      let counted : at ≡ count_of st = eqb-true _ _ front.1 in
      let dead = not-true (is_live number (inputs_at o st (count_of st))) whole.1 in
      at_free (NoFact session number at) front.0
      (change (Drop number), refl, ap (NoFact session number) counted ∙ sym (ap (changed session (count_of st) (Drop number)) dead))

  next_pin : (new : State) (name : List ℕ) (at : ℕ) → step o st (Pin session name at) ≡ Some new → IsNext chain o st session (Pin session name at) (place_of o st session)
  next_pin new name at goes =
      let may = allowed (may_pin o st session at) (after_pin st session name) new goes in
      let front = and_parts (is_free o st session) (at == count_of st) may.0 in
      at_free (Pin session name at) front.0 (bound name, refl, ap (Pin session name) (eqb-true _ _ front.1))

  next_list : (new : State) (at : ℕ) → step o st (ListEntry session at) ≡ Some new → IsNext chain o st session (ListEntry session at) (place_of o st session)
  next_list new at goes =
      let may = allowed (may_list o st session at) st new goes in
      let front = and_parts (is_free o st session) (at == count_of st) may.0 in
      at_free (ListEntry session at) front.0 (facts, refl, ap (ListEntry session) (eqb-true _ _ front.1))

-- The session has an open ask.

same_name_is : (a b : List ℕ) → same_name a b ≡ true → a ≡ b
same_name_is a b is = same_text a b (sym is)

abbrev keyed : ℕ → List ℕ → ℕ → Key
keyed kind name stamp = record { kind = kind; name = name; stamp = stamp }

same_key_is : (a b : Key) → same_key a b ≡ true → a ≡ b
same_key_is a b is =
    let whole = and_parts (a.kind == b.kind && same_name a.name b.name) (a.stamp == b.stamp) is in
    let front = and_parts (a.kind == b.kind) (same_name a.name b.name) whole.0 in
    ap (λ k. keyed k a.name a.stamp) (eqb-true _ _ front.0)
    ∙ ap (λ n. keyed b.kind n a.stamp) (same_name_is a.name b.name front.1)
    ∙ ap (keyed b.kind b.name) (eqb-true _ _ whole.1)

none_is : (r : Option Run) → is_none r ≡ true → r ≡ None
none_is None is = refl
none_is (Some r) is = absurd (cc)

end_is : (end : End) (current : Bool) → (end ≡ Memory → ⊥) → right_end end current ≡ true → end ≡ end_for current
end_is Kept true calm is = refl
end_is Kept false calm is = absurd (cc)
end_is Dropped true calm is = absurd (cc)
end_is Dropped false calm is = refl
end_is Memory current calm is = absurd (calm refl)

first_case : (reach : ℕ → Bool) (kind k n : ℕ) (ks : List ℕ) (same : Bool) → (k == kind) ≡ same
    → (same ≡ false → list_all reach (take n ks) ≡ true → find (λ j. not (reach j)) ks ≡ Some kind)
    → list_all reach (take (cond (not same) (1 + n) 0) (k ∷ ks)) ≡ true → reach kind ≡ false → find (λ j. not (reach j)) (k ∷ ks) ≡ Some kind
first_case reach kind k n ks true is later all missing =
    let here : k ≡ kind = eqb-true _ _ is in
    ap (λ r. cond (not r) (Some k) (find (λ j. not (reach j)) ks)) (ap reach here ∙ missing) ∙ ap Some here
first_case reach kind k n ks false is later all missing =
    let both = and_parts (reach k) (list_all reach (take n ks)) (sym (ap (λ m. list_all reach (take m (k ∷ ks))) (one-add n)) ∙ all) in
    ap (λ r. cond (not r) (Some k) (find (λ j. not (reach j)) ks)) both.0 ∙ later refl both.1

or_cut : (a b : Bool) → a ≡ false → (a || b) ≡ true → b ≡ true
or_cut true b off is = absurd (cc)
or_cut false b off is = is

first_is : (reach : ℕ → Bool) (kind : ℕ) (ks : List ℕ) → has_kind kind ks ≡ true → list_all reach (before kind ks) ≡ true → reach kind ≡ false → find (λ j. not (reach j)) ks ≡ Some kind
first_is reach kind [] has all missing = absurd (cc)
first_is reach kind (k ∷ ks) has all missing =
    first_case reach kind k (prefix_len (λ j. not (j == kind)) ks) ks (k == kind) refl
    (λ other later. first_is reach kind ks (or_cut (k == kind) (has_kind kind ks) other has) later missing) all missing

module _ (chain : Chain) (o : Opening) (st : State) (session : ℕ) where
  at_rest : (e : Entry) (ask : Ask) (reached : Bool) → open_ask o st session ≡ Some ask → own_run session st.out ≡ None → within_reach o st ask bound_kind ≡ reached
      → IsNext chain o st session e (asks ask reached) → IsNext chain o st session e (place_of o st session)
  at_rest e ask reached asked rests is next =
      let A : Option Ask → Type 0 = λ a. IsNext chain o st session e (place_for o st a (own_run session st.out)) in
      let R : Option Run → Type 0 = λ r. IsNext chain o st session e (place_for o st (Some ask) r) in
      let B : Bool → Type 0 = λ b. IsNext chain o st session e (asks ask b) in
      subst A (sym asked) (subst R (sym rests) (subst B (sym is) next))

  next_start : (new : State) (kind : ℕ) (name : List ℕ) (stamp : ℕ) → step o st (Start session kind name stamp) ≡ Some new → IsNext chain o st session (Start session kind name stamp) (place_of o st session)
  next_start new kind name stamp goes =
      let is = started o st new session kind name stamp goes in
      let ask = is.ask in
      let reach : ℕ → Bool = within_reach o st ask in
      let kinds = order_of o.kinds in
      let p8 = and_parts _ (not (is_out (key_with kind name stamp) st.out)) is.may in
      let p7 = and_parts _ (list_all reach (before kind kinds)) p8.0 in
      let p6 = and_parts _ (has_kind kind kinds) p7.0 in
      let p5 = and_parts _ (not (reach bound_kind)) p6.0 in
      let p4 = and_parts _ (not (reach kind)) p5.0 in
      let p3 = and_parts _ (stamp == stamp_at o st kind ask.at) p4.0 in
      let p2 = and_parts _ (not ask.memory) p3.0 in
      let p1 = and_parts (same_name ask.name name) (is_none (own_run session st.out)) p2.0 in
      let first = first_is reach kind kinds p6.1 p7.1 (not-true (reach kind) p4.1) in
      at_rest (Start session kind name stamp) ask false is.asked (none_is (own_run session st.out) p1.1) (not-true (reach bound_kind) p5.1)
      (kind, first, ap (λ n. Start session kind n stamp) (sym (same_name_is ask.name name p1.0)) ∙ ap (Start session kind ask.name) (eqb-true _ _ p3.1))

  next_finish : (new : State) (kind : ℕ) (name : List ℕ) (stamp : ℕ) (end : End) → (end ≡ Memory → ⊥) → step o st (Finish session kind name stamp end) ≡ Some new
      → IsNext chain o st session (Finish session kind name stamp end) (place_of o st session)
  next_finish new kind name stamp end calm goes =
      let is = finished o st new session kind name stamp end goes in
      let key : Key = key_with kind name stamp in
      let e : Entry = Finish session kind name stamp end in
      let both = and_parts (same_key is.run.key key) (right_end end (stamp == stamp_at o st kind (count_of st))) is.may in
      let A : Option Ask → Type 0 = λ a. IsNext chain o st session e (place_for o st a (own_run session st.out)) in
      let R : Option Run → Type 0 = λ r. IsNext chain o st session e (place_for o st (Some is.ask) r) in
      let K : Key → Type 0 = λ k. e ≡ Finish session k.kind k.name k.stamp (end_of o st k) in
      subst A (sym is.asked) (subst R (sym is.own) (subst K (sym (same_key_is is.run.key key both.0))
      (ap (Finish session kind name stamp) (end_is end (stamp == stamp_at o st kind (count_of st)) calm both.1))))

  answer_parts : (memory reached : Bool) (outcome : Outcome) → (outcome ≡ NoMemory → ⊥) → (if memory then is_memory outcome else (not (is_memory outcome) && reached)) ≡ true → reached ≡ true
  answer_parts true reached (Bound n) calm is = absurd (cc)
  answer_parts true reached (Fault fault) calm is = absurd (cc)
  answer_parts memory reached NoMemory calm is = absurd (calm refl)
  answer_parts false reached (Bound n) calm is = is
  answer_parts false reached (Fault fault) calm is = is

  outcome_is : (at : ℕ) (name : List ℕ) (outcome : Outcome) → (outcome ≡ NoMemory → ⊥) → IsRight chain o.image st.edits (Answer session name at outcome) → chain (inputs_at o st at) name outcome
  outcome_is at name (Bound n) calm right = right
  outcome_is at name (Fault fault) calm right = right
  outcome_is at name NoMemory calm right = absurd (calm refl)

  next_answer : (new : State) (name : List ℕ) (at : ℕ) (outcome : Outcome) → (outcome ≡ NoMemory → ⊥) → step o st (Answer session name at outcome) ≡ Some new
      → IsRight chain o.image st.edits (Answer session name at outcome) → IsNext chain o st session (Answer session name at outcome) (place_of o st session)
  next_answer new name at outcome calm goes right =
      let is = answered o st new session name at outcome goes in
      let ask = is.ask in
      let p3 = and_parts _ (right_outcome o st ask outcome) is.may in
      let p2 = and_parts _ (is_none (own_run session st.out)) p3.0 in
      let p1 = and_parts (same_name ask.name name) (ask.at == at) p2.0 in
      let name_is : ask.name ≡ name = same_name_is ask.name name p1.0 in
      let at_is : ask.at ≡ at = eqb-true _ _ p1.1 in
      let told = subst (λ (n : List ℕ). chain (inputs_at o st ask.at) n outcome) (sym name_is) (subst (λ (n : ℕ). chain (inputs_at o st n) name outcome) (sym at_is) (outcome_is at name outcome calm right)) in
      at_rest (Answer session name at outcome) ask true is.asked (none_is (own_run session st.out) p2.1) (answer_parts ask.memory (within_reach o st ask bound_kind) outcome calm p3.1)
      (outcome, told, ap (λ n. Answer session n at outcome) (sym name_is) ∙ ap (λ n. Answer session ask.name n outcome) (sym at_is))

finish_calm : (session kind : ℕ) (name : List ℕ) (stamp : ℕ) (end : End) → IsCalm (Finish session kind name stamp end) → end ≡ Memory → ⊥
finish_calm session kind name stamp Kept calm is = absurd (cc)
finish_calm session kind name stamp Dropped calm is = absurd (cc)
finish_calm session kind name stamp Memory calm is = calm

answer_calm : (session : ℕ) (name : List ℕ) (at : ℕ) (outcome : Outcome) → IsCalm (Answer session name at outcome) → outcome ≡ NoMemory → ⊥
answer_calm session name at (Bound n) calm is = absurd (cc)
answer_calm session name at (Fault fault) calm is = absurd (cc)
answer_calm session name at NoMemory calm is = calm

pub is_next : (chain : Chain) (o : Opening) (st new : State) (e : Entry) → step o st e ≡ Some new → IsCalm e → IsRight chain o.image st.edits e → IsNext chain o st (session_of e) e (place_of o st (session_of e))
is_next chain o st new (EditEntry session count edit) goes calm right = next_edit chain o st session new count edit goes
is_next chain o st new (NoFact session number at) goes calm right = next_refused chain o st session new number at goes
is_next chain o st new (Pin session name at) goes calm right = next_pin chain o st session new name at goes
is_next chain o st new (Start session kind name stamp) goes calm right = next_start chain o st session new kind name stamp goes
is_next chain o st new (Finish session kind name stamp end) goes calm right = next_finish chain o st session new kind name stamp end (finish_calm session kind name stamp end calm) goes
is_next chain o st new (Answer session name at outcome) goes calm right = next_answer chain o st session new name at outcome (answer_calm session name at outcome calm) goes right
is_next chain o st new (ListEntry session at) goes calm right = next_list chain o st session new at goes
