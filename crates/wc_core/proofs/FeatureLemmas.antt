-- Inputs between which no edit touched a kind's closure: a feature on one of them is a feature on the other.
use Rattle.std.proofs.Common.{◌≡◌, ℕ, zero, suc, ◌+◌, ◌-◌, ◌<◌, ◌≤◌, ◌⊎◌, inl, inr, ⊎_elim, Bool, true, false, List, [], ◌∷◌, ◌++◌, take, length, refl, sym, ap, subst, ◌∙◌, arith, if◌then◌else◌}
use Rattle.std.proofs.lemmas.List.{length-take-le}
use Rattle.wc_model.specs.declared.elf_image.Image.{Image}
use Rattle.wc_model.specs.declared.inputs.Edit.{Edit}
use Rattle.wc_model.specs.Workspace.Closures.{closure, last_touch, stamp_of}
use Rattle.wc_model.specs.Workspace.Edits.{AgreeOnAll, Setting, after_edits, all_edited, bare}
use Rattle.wc_model.specs.Workspace.States.{Opening, State, count_of, inputs_at, stamp_at}
use Rattle.wc_model.proofs.Current.{now_from_then, then_from_now}
use Rattle.wc_core.specs.Fits.{Feature}
use Rattle.wc_core.specs.Inner.Stocks.{IsRightFor}

abbrev pub IsStable : {V : Type 0} → Feature V → Opening → Type 0
IsStable {V} feature o = (k : ℕ) (a b : Setting) (name : List ℕ) (v : V) → AgreeOnAll a b (closure o.kinds k) → feature k a name v → feature k b name v

total : (n m : ℕ) → (n ≤ m) ⊎ (m ≤ n)
total zero m = inl (omega arith)
total (suc n) zero = inr (omega arith)
total (suc n) (suc m) = ⊎_elim (λ (le : n ≤ m). inl (omega (arith, le))) (λ (le : m ≤ n). inr (omega (arith, le))) (total n m)

take_take : {A : Type 0} (n m : ℕ) (xs : List A) → n ≤ m → take n (take m xs) ≡ take n xs
take_take zero m xs le = refl
take_take (suc n) zero xs le = absurd (omega (arith, le))
take_take (suc n) (suc m) [] le = refl
take_take (suc n) (suc m) (x ∷ xs) le = ap (λ ys. x ∷ ys) (take_take n m xs (omega (arith, le)))

module _ {V : Type 0} (feature : Feature V) (o : Opening) (st : State) (kind : ℕ) (name : List ℕ) (v : V) (stable : IsStable feature o) where
  abbrev Holds : Setting → Type 0
  Holds i = feature kind i name v

  -- from the earlier count to the later one, and back
  later : (n m : ℕ) → n ≤ m → m ≤ length st.edits → stamp_at o st kind n ≡ stamp_at o st kind m → Holds (inputs_at o st n) → Holds (inputs_at o st m)
  later n m le within same is =
      let edits : List Edit = take m st.edits in
      let cut : take n edits ≡ take n st.edits = take_take n m st.edits le in
      let small : n ≤ length edits = omega (arith, le, length-take-le m st.edits within) in
      now_from_then (closure o.kinds kind) o.image n edits small (ap (λ es. last_touch (closure o.kinds kind) 0 0 (bare o.image) es) cut ∙ same) Holds (λ a b agree. stable kind a b name v agree)
      (subst (λ es. Holds (all_edited 0 (bare o.image) es)) (sym cut) is)

  sooner : (n m : ℕ) → n ≤ m → m ≤ length st.edits → stamp_at o st kind n ≡ stamp_at o st kind m → Holds (inputs_at o st m) → Holds (inputs_at o st n)
  sooner n m le within same is =
      let edits : List Edit = take m st.edits in
      let cut : take n edits ≡ take n st.edits = take_take n m st.edits le in
      let small : n ≤ length edits = omega (arith, le, length-take-le m st.edits within) in
      subst (λ es. Holds (all_edited 0 (bare o.image) es)) cut
      (then_from_now (closure o.kinds kind) o.image n edits small (ap (λ es. last_touch (closure o.kinds kind) 0 0 (bare o.image) es) cut ∙ same) Holds (λ a b agree. stable kind a b name v agree) is)

  pub right_from : (m stamp : ℕ) → m ≤ length st.edits → stamp_at o st kind m ≡ stamp → Holds (inputs_at o st m) → IsRightFor feature o st name kind stamp v
  right_from m stamp within own is n small same =
      ⊎_elim (λ (le : n ≤ m). sooner n m le within (same ∙ sym own) is) (λ (le : m ≤ n). later m n le small (own ∙ sym same) is) (total n m)
