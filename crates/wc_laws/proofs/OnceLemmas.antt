-- Two lists of entries of one session that ask for the same are the same.
use Rattle.std.proofs.Common.{◌≡◌, ℕ, ◌+◌, Bool, true, false, ◌&&◌, ◌==◌, nat_le, List, [], ◌∷◌, ◌++◌, Option, None, Some, is_none, All, refl, sym, ap, subst, ◌∙◌, append_assoc, append-nil, arith, flat_map, if◌then◌else◌}
use Rattle.std.proofs.lemmas.Bool.{and_parts, leb-true}
use Rattle.std.proofs.lemmas.List.{append_cancel_left}
use Rattle.std.proofs.lemmas.List.Elements.{All-head, All-tail}
use Rattle.wc_model.specs.declared.entries.Entry.{Entry}
use Rattle.wc_model.specs.declared.entries.Entry.TheVariants.{Edit as EditEntry, NoFact, Pin, Start, Finish, Answer, List as ListEntry}
use Rattle.wc_model.specs.declared.inputs.Edit.{Edit}
use Rattle.wc_model.specs.Workspace.Edits.{edit_of}
use Rattle.wc_model.specs.Workspace.Entries.{session_of}
use Rattle.wc_model.specs.Workspace.History.{Chain, EachRight, step, replay, may_edit, after_edit, may_refuse, may_pin, after_pin, may_list}
use Rattle.wc_model.specs.Workspace.States.{Opening, State, Ask, is_session, is_free, ask_at, open_ask, own_run, count_of, inputs_at, stamp_at}
use Rattle.wc_model.proofs.StepLemmas.{allowed, started, finished, answered, some_same}
use Rattle.wc_laws.specs.OneSession.{Request, IsSingle, IsCalm, request_of}
use Rattle.wc_laws.proofs.NextLemmas.{Place, free, away, asks, place_for, place_of, entry_for, IsNext, unasked, is_next}

-- Each entry is by a session of the workspace.

free_known : (o : Opening) (st : State) (session : ℕ) → is_free o st session ≡ true → is_session o session ≡ true
free_known o st session is = (and_parts (is_session o session) (is_none (ask_at session st.asks)) is).0

asked_case : (known : Bool) (asked : Option Ask) (ask : Ask) → (if known then asked else None) ≡ Some ask → known ≡ true
asked_case true asked ask is = refl
asked_case false asked ask is = absurd (cc)

pub asked_known : (o : Opening) (st : State) (session : ℕ) (ask : Ask) → open_ask o st session ≡ Some ask → is_session o session ≡ true
asked_known o st session ask is = asked_case (is_session o session) (ask_at session st.asks) ask is

free_if : (o : Opening) (st : State) (session count next : ℕ) → (is_free o st session && count == next) ≡ true → is_session o session ≡ true
free_if o st session count next is = free_known o st session (and_parts (is_free o st session) (count == next) is).0

by_session : (o : Opening) (st new : State) (e : Entry) → step o st e ≡ Some new → is_session o (session_of e) ≡ true
by_session o st new (EditEntry session count edit) goes = free_if o st session count (count_of st + 1) (and_parts _ _ (allowed (may_edit o st session count edit) (after_edit o st edit) new goes).0).0
by_session o st new (NoFact session number at) goes = free_if o st session at (count_of st) (and_parts _ _ (allowed (may_refuse o st session number at) st new goes).0).0
by_session o st new (Pin session name at) goes = free_if o st session at (count_of st) (allowed (may_pin o st session at) (after_pin st session name) new goes).0
by_session o st new (ListEntry session at) goes = free_if o st session at (count_of st) (allowed (may_list o st session at) st new goes).0
by_session o st new (Start session kind name stamp) goes = let is = started o st new session kind name stamp goes in asked_known o st session is.ask is.asked
by_session o st new (Finish session kind name stamp end) goes = let is = finished o st new session kind name stamp end goes in asked_known o st session is.ask is.asked
by_session o st new (Answer session name at outcome) goes = let is = answered o st new session name at outcome goes in asked_known o st session is.ask is.asked

pub by_one : (o : Opening) (st new : State) (e : Entry) → o.sessions ≡ 1 → step o st e ≡ Some new → session_of e ≡ 1
by_one o st new e alone goes =
    let both = and_parts (nat_le 1 (session_of e)) (nat_le (session_of e) o.sessions) (by_session o st new e goes) in
    omega (arith, leb-true 1 (session_of e) both.0, leb-true (session_of e) o.sessions both.1, alone)

-- The edits of a state grow by those of each entry.

abbrev edits_in : State → List Edit
edits_in st = st.edits

none_more : (st new : State) → edits_in st ≡ edits_in new → st.edits ++ [] ≡ new.edits
none_more st new same = append-nil st.edits ∙ same

edits_step : (o : Opening) (st new : State) (e : Entry) → step o st e ≡ Some new → st.edits ++ edit_of e ≡ new.edits
edits_step o st new (EditEntry session count edit) goes = ap edits_in (allowed (may_edit o st session count edit) (after_edit o st edit) new goes).1
edits_step o st new (NoFact session number at) goes = none_more st new (ap edits_in (allowed (may_refuse o st session number at) st new goes).1)
edits_step o st new (Pin session name at) goes = none_more st new (ap edits_in (allowed (may_pin o st session at) (after_pin st session name) new goes).1)
edits_step o st new (ListEntry session at) goes = none_more st new (ap edits_in (allowed (may_list o st session at) st new goes).1)
edits_step o st new (Start session kind name stamp) goes = none_more st new (ap edits_in (started o st new session kind name stamp goes).new_is)
edits_step o st new (Finish session kind name stamp end) goes = none_more st new (ap edits_in (finished o st new session kind name stamp end goes).new_is)
edits_step o st new (Answer session name at outcome) goes = none_more st new (ap edits_in (answered o st new session name at outcome goes).new_is)

-- The entries from a state to a last one, without want of memory.
pub record IsRun (chain : Chain) (o : Opening) (st last : State) (es : List Entry) : Type 0 where
  pub goes : replay o (Some st) es ≡ Some last
  pub right : EachRight chain o.image st.edits es
  pub calm : All IsCalm es

record IsTurn (chain : Chain) (o : Opening) (st last : State) (e : Entry) (es : List Entry) : Type 0 where
  pub new : State
  pub goes : step o st e ≡ Some new
  pub next : IsNext chain o st 1 e (place_of o st 1)
  pub later : IsRun chain o new last es

stopped : (o : Opening) (es : List Entry) → replay o None es ≡ None
stopped o [] = refl
stopped o (e ∷ es) = stopped o es

pub went_on : (o : Opening) (next : Option State) (last : State) (es : List Entry) → replay o next es ≡ Some last → (new : State) × (next ≡ Some new) × (replay o (Some new) es ≡ Some last)
went_on o None last es goes = absurd (let none = sym (stopped o es) ∙ goes in cc)
went_on o (Some new) last es goes = (new, refl, goes)

-- What stands between two runs of the same requests.
abbrev all_requests : List Entry → List Request
all_requests es = flat_map request_of es

module _ (chain : Chain) (o : Opening) (alone : o.sessions ≡ 1) where
  turn : (st last : State) (e : Entry) (es : List Entry) → IsRun chain o st last (e ∷ es) → IsTurn chain o st last e es
  turn st last e es run =
      let on = went_on o (step o st e) last es run.goes in
      let P : ℕ → Type 0 = λ s. IsNext chain o st s e (place_of o st s) in
      let R : List Edit → Type 0 = λ edits. EachRight chain o.image edits es in
      record {
        new = on.0;
        goes = on.1;
        next = subst P (by_one o st on.0 e alone on.1) (is_next chain o st on.0 e on.1 (All-head IsCalm e es run.calm) run.right.0);
        later = record { goes = on.2; right = subst R (edits_step o st on.0 e on.1) run.right.1; calm = All-tail IsCalm e es run.calm };
      }

  heads : (r q : Request) (rs qs : List Request) → r ∷ rs ≡ q ∷ qs → r ≡ q
  heads r q rs qs same = cc

  module _ (single : IsSingle chain) (st : State) (e f : Entry) (xs ys : List Request) (same : request_of e ++ xs ≡ request_of f ++ ys) where
    same_entry : (place : Place) → IsNext chain o st 1 e place → IsNext chain o st 1 f place → e ≡ f
    same_entry free a b =
        let asked : a.0 ∷ xs ≡ b.0 ∷ ys = sym (ap (λ l. l ++ xs) a.1) ∙ same ∙ ap (λ l. l ++ ys) b.1 in
        a.2 ∙ ap (entry_for o st 1) (heads a.0 b.0 xs ys asked) ∙ sym b.2
    same_entry (away run) a b = a ∙ sym b
    same_entry (asks ask true) a b = a.2 ∙ ap (Answer 1 ask.name ask.at) (single (inputs_at o st ask.at) ask.name a.0 b.0 a.1 b.1) ∙ sym b.2
    same_entry (asks ask false) a b = a.2 ∙ ap (λ k. Start 1 k ask.name (stamp_at o st k ask.at)) (some_same a.0 b.0 (sym a.1 ∙ b.1)) ∙ sym b.2

  -- whoever has no open ask goes on by a request alone
  asks_more : (st : State) (e : Entry) → is_free o st 1 ≡ true → IsNext chain o st 1 e (place_of o st 1) → (r : Request) × (request_of e ≡ r ∷ [])
  asks_more st e rests next =
      let P : Option Ask → Type 0 = λ a. IsNext chain o st 1 e (place_for o st a (own_run 1 st.out)) in
      let n = subst P (unasked o st 1 rests) next in
      (n.0, n.1)

  no_more : (r : Request) (rs ws vs : List Request) → rs ≡ r ∷ [] → (rs ++ ws) ++ vs ≡ [] → ⊥
  no_more r rs ws vs is none = let both : (r ∷ ws) ++ vs ≡ [] = sym (ap (λ l. (l ++ ws) ++ vs) is) ∙ none in cc

  pub front : (single : IsSingle chain) (es fs : List Entry) (more : List Request) (st a b : State) → IsRun chain o st a es → IsRun chain o st b fs → is_free o b 1 ≡ true
      → all_requests es ++ more ≡ all_requests fs → (rest : List Entry) × (es ++ rest ≡ fs)
  front single [] fs more st a b first second rests same = (fs, refl)
  front single (e ∷ es) [] more st a b first second rests same =
      let t = turn st a e es first in
      let at_last : st ≡ b = some_same st b second.goes in
      let P : State → Type 0 = λ s. is_free o s 1 ≡ true in
      let r = asks_more st e (subst P (sym at_last) rests) t.next in
      absurd (no_more r.0 (request_of e) (all_requests es) more r.1 same)
  front single (e ∷ es) (f ∷ fs) more st a b first second rests same =
      let t = turn st a e es first in
      let u = turn st b f fs second in
      let grouped : request_of e ++ (all_requests es ++ more) ≡ request_of f ++ all_requests fs = sym (append_assoc (request_of e) (all_requests es) more) ∙ same in
      let is : e ≡ f = same_entry single st e f (all_requests es ++ more) (all_requests fs) grouped (place_of o st 1) t.next u.next in
      let new : t.new ≡ u.new = some_same t.new u.new (sym t.goes ∙ ap (step o st) is ∙ u.goes) in
      let later : all_requests es ++ more ≡ all_requests fs = append_cancel_left (request_of e) _ _ (grouped ∙ ap (λ x. request_of x ++ all_requests fs) (sym is)) in
      let N : State → Type 0 = λ s. IsRun chain o s b fs in
      let found = front single es fs more t.new a b t.later (subst N (sym new) u.later) rests later in
      (found.0, ap (λ x. x ∷ (es ++ found.0)) is ∙ ap (λ l. f ∷ l) found.1)
