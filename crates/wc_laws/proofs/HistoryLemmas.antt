-- The histories of one session that ask for the same.
use Rattle.std.proofs.Common.{◌≡◌, ℕ, ◌+◌, List, [], ◌∷◌, ◌++◌, map, drop, length, length-append, take-append-drop, append-nil, append_assoc, Option, None, Some, IsSome, All, refl, sym, ap, subst, ◌∙◌, arith, flat_map}
use Rattle.std.proofs.lemmas.List.{nil_from_length}
use Rattle.std.proofs.lemmas.List.Elements.{All-drop}
use Rattle.wc_model.specs.declared.elf_image.Image.{Image}
use Rattle.wc_model.specs.declared.entries.Entry.{Entry}
use Rattle.wc_model.specs.declared.flow_facts.Fact.{Fact}
use Rattle.wc_model.specs.declared.inputs.Edit.{Edit}
use Rattle.wc_model.specs.declared.inputs.Edit.TheVariants.{Add, Hardware as Timing}
use Rattle.wc_model.specs.Workspace.Edits.{edit_of, numbered}
use Rattle.wc_model.specs.Workspace.History.{Chain, EachRight, IsLegal, opened, opening_entry, opening_entries, state_after}
use Rattle.wc_model.specs.Workspace.States.{Opening, State, start}
use Rattle.wc_laws.specs.OneSession.{IsCalm, IsGranted, IsSingle, IsWhole, OneFront, OneHistory, requests_of}
use Rattle.wc_laws.proofs.CalmLemmas.{calm}
use Rattle.wc_laws.proofs.OnceLemmas.{IsRun, front}

opening_edits : (number : ℕ) (facts : List Fact) → flat_map edit_of (map opening_entry (numbered number facts)) ≡ map Add facts
opening_edits number [] = refl
opening_edits number (f ∷ fs) = ap (λ l. Add f ∷ l) (opening_edits (number + 1) fs)

right_behind : (chain : Chain) (image : Image) (edits : List Edit) (es fs : List Entry) → EachRight chain image edits (es ++ fs) → EachRight chain image (edits ++ flat_map edit_of es) fs
right_behind chain image edits [] fs each = let P : List Edit → Type 0 = λ l. EachRight chain image l fs in subst P (sym (append-nil edits)) each
right_behind chain image edits (e ∷ es) fs each =
    let P : List Edit → Type 0 = λ l. EachRight chain image l fs in
    subst P (append_assoc edits (edit_of e) (flat_map edit_of es)) (right_behind chain image (edits ++ edit_of e) es fs each.1)

module _ (chain : Chain) (o : Opening) where
  -- the entries behind the opening ones
  behind : (h : List Entry) → IsLegal chain o h → opening_entries o ++ drop (opened o) h ≡ h
  behind h legal = ap (λ l. l ++ drop (opened o) h) (sym legal.begins) ∙ take-append-drop (opened o) h

  answers_behind : (h : List Entry) → IsLegal chain o h → EachRight chain o.image (start o).edits (drop (opened o) h)
  answers_behind h legal =
      let W : List Entry → Type 0 = λ l. EachRight chain o.image [] l in
      let P : List Edit → Type 0 = λ l. EachRight chain o.image l (drop (opened o) h) in
      subst P (ap (λ l. Timing o.hardware ∷ l) (opening_edits 2 o.facts)) (right_behind chain o.image [] (opening_entries o) (drop (opened o) h) (subst W (sym (behind h legal)) legal.answers))

  run_of : (h : List Entry) (last : State) → IsLegal chain o h → state_after o h ≡ Some last → All IsCalm (drop (opened o) h) → IsRun chain o (start o) last (drop (opened o) h)
  run_of h last legal state calm = record { goes = state; right = answers_behind h legal; calm = calm }

  whole_run : (h : List Entry) → o.sessions ≡ 1 → (whole : IsWhole chain o h) → IsRun chain o (start o) whole.free.st (drop (opened o) h)
  whole_run h alone whole =
      run_of h whole.free.st whole.legal whole.free.state
      (calm o alone (drop (opened o) h) (start o) whole.free.st whole.free.state whole.free.free (All-drop IsGranted (opened o) h whole.granted))

  joined : (h g rest : List Entry) → IsLegal chain o h → IsLegal chain o g → drop (opened o) h ++ rest ≡ drop (opened o) g → h ++ rest ≡ g
  joined h g rest first second same =
      ap (λ l. l ++ rest) (sym (behind h first))
      ∙ append_assoc (opening_entries o) (drop (opened o) h) rest
      ∙ ap (λ l. opening_entries o ++ l) same
      ∙ behind g second

none_left : (h g rest more : List Entry) → h ++ rest ≡ g → g ++ more ≡ h → h ≡ g
none_left h g rest more first second =
    let none : rest ≡ [] = nil_from_length rest (omega (arith, ap length first, ap length second, length-append h rest, length-append g more)) in
    sym (append-nil h) ∙ ap (λ l. h ++ l) (sym none) ∙ first

some_is : {A : Type 0} (x : Option A) → IsSome x → (a : A) × (x ≡ Some a)
some_is None is = absurd (cc)
some_is (Some a) is = (a, refl)

pub front_law : (chain : Chain) → OneFront chain
front_law chain o h g more single alone legal quiet whole same =
    let last = some_is (state_after o h) legal.goes_on in
    let run = run_of chain o h last.0 legal last.1 (All-drop IsCalm (opened o) h quiet) in
    let found = front chain o alone single (drop (opened o) h) (drop (opened o) g) more (start o) last.0 whole.free.st run (whole_run chain o g alone whole) whole.free.free same in
    (found.0, joined chain o h g found.0 legal whole.legal found.1)

whole_front : (chain : Chain) (o : Opening) (h g : List Entry) → IsSingle chain → o.sessions ≡ 1 → IsWhole chain o h → IsWhole chain o g → requests_of o h ≡ requests_of o g → (rest : List Entry) × (h ++ rest ≡ g)
whole_front chain o h g single alone first second same =
    let found = front chain o alone single (drop (opened o) h) (drop (opened o) g) [] (start o) first.free.st second.free.st (whole_run chain o h alone first) (whole_run chain o g alone second) second.free.free
    (append-nil (requests_of o h) ∙ same) in
    (found.0, joined chain o h g found.0 first.legal second.legal found.1)

pub history_law : (chain : Chain) → OneHistory chain
history_law chain o h g single alone first second same =
    let there = whole_front chain o h g single alone first second same in
    let back = whole_front chain o g h single alone second first (sym same) in
    none_left h g there.0 back.0 there.1 back.1
