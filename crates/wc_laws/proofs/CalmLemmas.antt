-- Where each ask is answered and no answer is want of memory, no run wanted memory.
use Rattle.std.proofs.Common.{◌≡◌, ℕ, zero, suc, ◌+◌, ◌<◌, Bool, true, false, not, ◌&&◌, ◌==◌, List, [], ◌∷◌, length, Option, None, Some, All, refl, sym, ap, subst, ◌∙◌, arith, if◌then◌else◌}
use Rattle.std.proofs.lemmas.Bool.{and_parts, not-true, both_ways}
use Rattle.std.proofs.lemmas.List.Elements.{All-head, All-tail, All-cons}
use Rattle.wc_model.specs.declared.entries.End.{End}
use Rattle.wc_model.specs.declared.entries.End.TheVariants.{Kept, Dropped, Memory}
use Rattle.wc_model.specs.declared.entries.Entry.{Entry}
use Rattle.wc_model.specs.declared.entries.Entry.TheVariants.{Edit as EditEntry, NoFact, Pin, Start, Finish, Answer, List as ListEntry}
use Rattle.wc_model.specs.declared.values.Outcome.{Outcome}
use Rattle.wc_model.specs.declared.values.Outcome.TheVariants.{Bound, Fault, Memory as NoMemory}
use Rattle.wc_model.specs.Workspace.Entries.{session_of}
use Rattle.wc_model.specs.Workspace.History.{step, replay, key_with, may_start, may_edit, after_edit, may_refuse, may_pin, after_pin, may_list, ask_after, is_memory, right_outcome}
use Rattle.wc_model.specs.Workspace.States.{Opening, Key, State, Ask, is_session, is_free, ask_at, open_ask, count_of}
use Rattle.wc_model.proofs.Sharing.{asked_same}
use Rattle.wc_model.proofs.StepLemmas.{allowed, started, finished, answered, some_same}
use Rattle.wc_laws.specs.OneSession.{IsGranted, IsCalm}
use Rattle.wc_laws.proofs.NextLemmas.{unasked}
use Rattle.wc_laws.proofs.OnceLemmas.{asked_known, by_one, went_on}

-- A run of the open ask found no memory.
record Wants (o : Opening) (st : State) (session : ℕ) : Type 0 where
  pub ask : Ask
  pub asked : open_ask o st session ≡ Some ask
  pub memory : ask.memory ≡ true

not_free : (o : Opening) (st : State) (session : ℕ) (ask : Ask) → open_ask o st session ≡ Some ask → is_free o st session ≡ true → ⊥
not_free o st session ask asked rests = let none = sym (unasked o st session rests) ∙ asked in cc

free_front : (o : Opening) (st : State) (session count next : ℕ) → (is_free o st session && count == next) ≡ true → is_free o st session ≡ true
free_front o st session count next is = (and_parts (is_free o st session) (count == next) is).0

-- A finish leaves the ask open, and it wants memory where it did before.

placed : (session : ℕ) (asks : List (Option Ask)) (ask : Ask) → ask_at session asks ≡ Some ask → session < length asks
placed session [] ask is = absurd (cc)
placed zero (a ∷ asks) ask is = omega arith
placed (suc session) (a ∷ asks) ask is = let rest = placed session asks ask is in omega (arith, rest)

asked_at : (known : Bool) (asked : Option Ask) (ask : Ask) → known ≡ true → (if known then asked else None) ≡ Some ask → asked ≡ Some ask
asked_at true asked ask known is = is
asked_at false asked ask known is = absurd (cc)

asked_when : (known : Bool) (asked : Option Ask) (ask : Ask) → known ≡ true → asked ≡ Some ask → (if known then asked else None) ≡ Some ask
asked_when true asked ask known is = is
asked_when false asked ask known is = absurd (cc)

finish_wants : (o : Opening) (st new : State) (session kind : ℕ) (name : List ℕ) (stamp : ℕ) (end : End) → step o st (Finish session kind name stamp end) ≡ Some new
    → ((ask : Ask) → open_ask o st session ≡ Some ask → (ask_after end kind ask).memory ≡ true) → Wants o new session
finish_wants o st new session kind name stamp end goes memory =
    let is = finished o st new session kind name stamp end goes in
    let known = asked_known o st session is.ask is.asked in
    let within = placed session st.asks is.ask (asked_at (is_session o session) (ask_at session st.asks) is.ask known is.asked) in
    let later : Ask = ask_after end kind is.ask in
    let there : ask_at session new.asks ≡ Some later = sym (ap (λ (s : State). ask_at session s.asks) is.new_is) ∙ asked_same session (Some later) st.asks within in
    record { ask = later; asked = asked_when (is_session o session) (ask_at session new.asks) later known there; memory = memory is.ask is.asked }

still : (end : End) (kind : ℕ) (ask : Ask) → ask.memory ≡ true → (ask_after end kind ask).memory ≡ true
still Kept kind ask is = is
still Dropped kind ask is = is
still Memory kind ask is = refl

memory_told : (memory reached : Bool) (outcome : Outcome) → memory ≡ true → (if memory then is_memory outcome else (not (is_memory outcome) && reached)) ≡ true → is_memory outcome ≡ true
memory_told true reached outcome is right = right
memory_told false reached outcome is right = absurd (cc)

not_granted : (session : ℕ) (name : List ℕ) (at : ℕ) (outcome : Outcome) → IsGranted (Answer session name at outcome) → is_memory outcome ≡ true → ⊥
not_granted session name at (Bound n) granted is = cc
not_granted session name at (Fault fault) granted is = cc
not_granted session name at NoMemory granted is = granted

start_quiet : (o : Opening) (st : State) (session : ℕ) (key : Key) (ask : Ask) → may_start o st session key ask ≡ true → ask.memory ≡ false
start_quiet o st session key ask may =
    let front = and_parts _ _ (and_parts _ _ (and_parts _ _ (and_parts _ _ (and_parts _ _ (and_parts _ _ may).0).0).0).0).0 in
    not-true ask.memory (and_parts _ (not ask.memory) front.0).1

-- Nobody who wants memory goes on to anything but an answer that says so.
wants_on : (o : Opening) (st new : State) (e : Entry) → step o st e ≡ Some new → IsGranted e → Wants o st (session_of e) → Wants o new (session_of e)
wants_on o st new (EditEntry session count edit) goes granted wants =
    absurd (not_free o st session wants.ask wants.asked (free_front o st session count (count_of st + 1) (and_parts _ _ (allowed (may_edit o st session count edit) (after_edit o st edit) new goes).0).0))
wants_on o st new (NoFact session number at) goes granted wants =
    absurd (not_free o st session wants.ask wants.asked (free_front o st session at (count_of st) (and_parts _ _ (allowed (may_refuse o st session number at) st new goes).0).0))
wants_on o st new (Pin session name at) goes granted wants =
    absurd (not_free o st session wants.ask wants.asked (free_front o st session at (count_of st) (allowed (may_pin o st session at) (after_pin st session name) new goes).0))
wants_on o st new (ListEntry session at) goes granted wants =
    absurd (not_free o st session wants.ask wants.asked (free_front o st session at (count_of st) (allowed (may_list o st session at) st new goes).0))
wants_on o st new (Start session kind name stamp) goes granted wants =
    let is = started o st new session kind name stamp goes in
    let same : wants.ask ≡ is.ask = some_same wants.ask is.ask (sym wants.asked ∙ is.asked) in
    absurd (both_ways is.ask.memory (start_quiet o st session (key_with kind name stamp) is.ask is.may) (sym (ap (λ (a : Ask). a.memory) same) ∙ wants.memory))
wants_on o st new (Finish session kind name stamp end) goes granted wants =
    finish_wants o st new session kind name stamp end goes (λ ask asked.
    let same : wants.ask ≡ ask = some_same wants.ask ask (sym wants.asked ∙ asked) in
    still end kind ask (sym (ap (λ (a : Ask). a.memory) same) ∙ wants.memory))
wants_on o st new (Answer session name at outcome) goes granted wants =
    let is = answered o st new session name at outcome goes in
    let same : wants.ask ≡ is.ask = some_same wants.ask is.ask (sym wants.asked ∙ is.asked) in
    let right = (and_parts _ (right_outcome o st is.ask outcome) is.may).1 in
    let told = memory_told is.ask.memory _ outcome (sym (ap (λ (a : Ask). a.memory) same) ∙ wants.memory) right in
    absurd (not_granted session name at outcome granted told)

module _ (o : Opening) (alone : o.sessions ≡ 1) where
  wants_one : (st new : State) (e : Entry) → step o st e ≡ Some new → IsGranted e → Wants o st 1 → Wants o new 1
  wants_one st new e goes granted wants =
      let one = by_one o st new e alone goes in
      let P : State → ℕ → Type 0 = λ s n. Wants o s n in
      subst (P new) one (wants_on o st new e goes granted (subst (P st) (sym one) wants))

  stuck : (es : List Entry) (st last : State) → Wants o st 1 → replay o (Some st) es ≡ Some last → is_free o last 1 ≡ true → All IsGranted es → ⊥
  stuck [] st last wants goes rests granted =
      let P : State → Type 0 = λ s. is_free o s 1 ≡ true in
      not_free o st 1 wants.ask wants.asked (subst P (sym (some_same st last goes)) rests)
  stuck (e ∷ es) st last wants goes rests granted =
      let on = went_on o (step o st e) last es goes in
      stuck es on.0 last (wants_one st on.0 e on.1 (All-head IsGranted e es granted) wants) on.2 rests (All-tail IsGranted e es granted)

  calm_entry : (st new : State) (e : Entry) → step o st e ≡ Some new → IsGranted e → (Wants o new 1 → ⊥) → IsCalm e
  calm_entry st new (Finish session kind name stamp Memory) goes granted never =
      let one = by_one o st new (Finish session kind name stamp Memory) alone goes in
      never (subst (λ (n : ℕ). Wants o new n) one (finish_wants o st new session kind name stamp Memory goes (λ ask asked. refl)))
  calm_entry st new (Finish session kind name stamp Kept) goes granted never = tt
  calm_entry st new (Finish session kind name stamp Dropped) goes granted never = tt
  calm_entry st new (Answer session name at outcome) goes granted never = granted
  calm_entry st new (EditEntry session count edit) goes granted never = tt
  calm_entry st new (NoFact session number at) goes granted never = tt
  calm_entry st new (Pin session name at) goes granted never = tt
  calm_entry st new (ListEntry session at) goes granted never = tt
  calm_entry st new (Start session kind name stamp) goes granted never = tt

  pub calm : (es : List Entry) (st last : State) → replay o (Some st) es ≡ Some last → is_free o last 1 ≡ true → All IsGranted es → All IsCalm es
  calm [] st last goes rests granted = λ k d below. absurd (omega (arith, below))
  calm (e ∷ es) st last goes rests granted =
      let on = went_on o (step o st e) last es goes in
      let tail = All-tail IsGranted e es granted in
      All-cons IsCalm e es (calm_entry st on.0 e on.1 (All-head IsGranted e es granted) (λ wants. stuck es on.0 last wants on.2 rests tail)) (calm es on.0 last on.2 rests tail)
