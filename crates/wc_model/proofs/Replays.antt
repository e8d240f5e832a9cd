-- A legal history grows by one entry at a time.
use Rattle.std.proofs.Common.{◌≡◌, ℕ, ◌+◌, ◌≤◌, List, [], ◌∷◌, ◌++◌, length, take, drop, Option, None, Some, refl, sym, ap, ◌∙◌, append_assoc, arith, subst, suc, if◌then◌else◌}
use Rattle.std.proofs.lemmas.List.{drop-append-le, take-append-le, append-nil, length-map, length-take}
use Rattle.std.proofs.lemmas.List.Concat.{flat_map-append}
use Rattle.wc_model.specs.declared.elf_image.Image.{Image}
use Rattle.wc_model.specs.declared.entries.Entry.{Entry}
use Rattle.wc_model.specs.declared.flow_facts.Fact.{Fact}
use Rattle.wc_model.specs.declared.inputs.Edit.{Edit}
use Rattle.wc_model.specs.declared.kinds.Part.{Part}
use Rattle.wc_model.specs.Workspace.Closures.{touches_any, last_touch}
use Rattle.wc_model.specs.Workspace.Edits.{Setting, numbered, edit_of, edits_of, edited, all_edited}
use Rattle.wc_model.specs.Workspace.History.{Chain, IsRight, EachRight, IsLegal, step, stepped, replay, state_after, opened, opening_entries, opening_entry, opening_facts}
use Rattle.wc_model.specs.Workspace.States.{Opening, State, start}
use Rattle.wc_model.proofs.StepLemmas.{some_same}

pub replay-append : (o : Opening) (st : Option State) (es fs : List Entry) → replay o st (es ++ fs) ≡ replay o (replay o st es) fs
replay-append o st [] fs = refl
replay-append o st (e ∷ es) fs = replay-append o (stepped o st e) es fs

-- What each step keeps, a whole replay keeps.

stopped : (o : Opening) (es : List Entry) → replay o None es ≡ None
stopped o [] = refl
stopped o (e ∷ es) = stopped o es

kept_case : (o : Opening) (P : State → Type 0) (es : List Entry) (last : State) (next : Option State)
    → ((new : State) → next ≡ Some new → P new) → ((new : State) → P new → replay o (Some new) es ≡ Some last → P last)
    → replay o next es ≡ Some last → P last
kept_case o P es last None this later goes = absurd (let none = sym (stopped o es) ∙ goes in cc)
kept_case o P es last (Some new) this later goes = later new (this new refl) goes

pub throughout : (o : Opening) (P : State → Type 0) → ((st new : State) (e : Entry) → step o st e ≡ Some new → P st → P new)
    → (es : List Entry) (st last : State) → P st → replay o (Some st) es ≡ Some last → P last
throughout o P keeps [] st last holds goes = subst P (some_same st last goes) holds
throughout o P keeps (e ∷ es) st last holds goes =
    kept_case o P es last (step o st e) (λ new goes. keeps st new e goes holds) (λ new. throughout o P keeps es new last) goes

pub edits_of-append : (es fs : List Entry) → edits_of (es ++ fs) ≡ edits_of es ++ edits_of fs
edits_of-append es fs = flat_map-append edit_of es fs

pub edits_of-snoc : (es : List Entry) (e : Entry) → edits_of (es ++ e ∷ []) ≡ edits_of es ++ edit_of e
edits_of-snoc es e = edits_of-append es (e ∷ []) ∙ ap (λ l. edits_of es ++ l) (append-nil (edit_of e))

same_right : (chain : Chain) (image : Image) (e : Entry) (a b : List Edit) → a ≡ b → IsRight chain image a e → IsRight chain image b e
same_right chain image e a b same right = let P : List Edit → Type 0 = λ l. IsRight chain image l e in subst P same right

pub right_snoc : (chain : Chain) (image : Image) (edits : List Edit) (es : List Entry) (e : Entry) → EachRight chain image edits es → IsRight chain image (edits ++ edits_of es) e → EachRight chain image edits (es ++ e ∷ [])
right_snoc chain image edits [] e each right = (same_right chain image e _ _ (append-nil edits) right, tt)
right_snoc chain image edits (f ∷ fs) e each right =
    (each.0, right_snoc chain image (edits ++ edit_of f) fs e each.1 (same_right chain image e _ _ (sym (append_assoc edits (edit_of f) (edits_of fs))) right))

pub length-numbered : (number : ℕ) (facts : List Fact) → length (numbered number facts) ≡ length facts
length-numbered number [] = refl
length-numbered number (f ∷ fs) = ap (λ n. suc n) (length-numbered (number + 1) fs)

pub length-opening_entries : (o : Opening) → length (opening_entries o) ≡ opened o
length-opening_entries o = ap (λ n. suc n) (length-map (opening_facts o.facts) opening_entry ∙ length-numbered 2 o.facts) ∙ omega arith

pub opened_within : (o : Opening) (history : List Entry) → take (opened o) history ≡ opening_entries o → opened o ≤ length history
opened_within o history begins = omega (arith, length-opening_entries o, ap length begins, length-take (opened o) history)

-- What is kept of a history: its replay stands at the state.
pub record Kept (chain : Chain) (o : Opening) (history : List Entry) (st : State) : Type 0 where
  pub begins : take (opened o) history ≡ opening_entries o
  pub state : state_after o history ≡ Some st
  pub right : EachRight chain o.image [] history
  pub edits : st.edits ≡ edits_of history

pub kept_is_legal : (chain : Chain) (o : Opening) (history : List Entry) (st : State) → Kept chain o history st → IsLegal chain o history
kept_is_legal chain o history st kept = record { begins = kept.begins; goes_on = rw kept.state refl; answers = kept.right }

state_snoc : (o : Opening) (history : List Entry) (st new : State) (e : Entry) → opened o ≤ length history → state_after o history ≡ Some st → step o st e ≡ Some new → state_after o (history ++ e ∷ []) ≡ Some new
state_snoc o history st new e within state next =
    ap (λ l. replay o (Some (start o)) l) (drop-append-le (opened o) history (e ∷ []) within)
    ∙ replay-append o (Some (start o)) (drop (opened o) history) (e ∷ [])
    ∙ ap (λ s. stepped o s e) state
    ∙ next

pub kept_snoc : (chain : Chain) (o : Opening) (history : List Entry) (st new : State) (e : Entry) → Kept chain o history st → step o st e ≡ Some new → IsRight chain o.image (edits_of history) e → new.edits ≡ st.edits ++ edit_of e → Kept chain o (history ++ e ∷ []) new
kept_snoc chain o history st new e kept next right edits =
    let within : opened o ≤ length history = opened_within o history kept.begins in
    record {
      begins = take-append-le (opened o) history (e ∷ []) within ∙ kept.begins;
      state = state_snoc o history st new e within kept.state next;
      right = right_snoc chain o.image [] history e kept.right right;
      edits = edits ∙ ap (λ l. l ++ edit_of e) kept.edits ∙ sym (edits_of-snoc history e);
    }

-- The inputs and the stamp after some edits and some more.
pub all_edited-append : (count : ℕ) (s : Setting) (es fs : List Edit) → all_edited count s (es ++ fs) ≡ all_edited (count + length es) (all_edited count s es) fs
all_edited-append count s [] fs = let same : count ≡ count + 0 = omega arith in ap (λ n. all_edited n s fs) same
all_edited-append count s (e ∷ es) fs =
    let same : count + 1 + length es ≡ count + suc (length es) = omega arith in
    all_edited-append (count + 1) (edited (count + 1) s e) es fs ∙ ap (λ n. all_edited n (all_edited (count + 1) (edited (count + 1) s e) es) fs) same

pub last_touch-append : (parts : List Part) (stamp count : ℕ) (s : Setting) (es fs : List Edit) → last_touch parts stamp count s (es ++ fs) ≡ last_touch parts (last_touch parts stamp count s es) (count + length es) (all_edited count s es) fs
last_touch-append parts stamp count s [] fs = let same : count ≡ count + 0 = omega arith in ap (λ n. last_touch parts stamp n s fs) same
last_touch-append parts stamp count s (e ∷ es) fs =
    let same : count + 1 + length es ≡ count + suc (length es) = omega arith in
    let next : ℕ = if touches_any parts s e then count + 1 else stamp in
    last_touch-append parts next (count + 1) (edited (count + 1) s e) es fs
    ∙ ap (λ n. last_touch parts (last_touch parts next (count + 1) (edited (count + 1) s e) es) n (all_edited (count + 1) (edited (count + 1) s e) es) fs) same
