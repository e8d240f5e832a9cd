-- An item with a number in a set that keeps the order of insertion.
use Rattle.std.proofs.Common.{ℕ, ◌≡◌, ◌<◌, ◌≤◌, inl, inr, ⊎_elim, ◌&&◌, Bool, true, false, eqb, if◌then◌else◌, List, [], ◌∷◌, ◌++◌, Option, None, Some, length, refl, sym, ap, subst, ◌∙◌, arith}
use Rattle.std.specs.List.{Contains, list_any, slice_get}
use Rattle.std.proofs.lemmas.Bool.{false≢true, eqb-true, eq-eqb}
use Rattle.std.proofs.lemmas.List.Folds.{list_any_at}
use Rattle.std.proofs.lemmas.Option.{none-some, slice_get_within}
use Rattle.std.specs.Option.{option_eq}
use Rattle.wc_graph.specs.declared.frames.Frame.{Frame}
use Rattle.wc_graph.specs.declared.frames.Place.{Place}
use Rattle.wc_model.proofs.Places.{contains_from_get, get_left, get_push_cases, get_within}
use Rattle.wc_graph.specs.Inner.Numbers.{IsOnce, IsKept, IsGrown, HasNumber}

module _ {X : Type 0} where
  -- what was added isn't among the old ones
  pub once_more : (old : List X) (x : X) → IsOnce old → (Contains old x → ⊥) → IsOnce (old ++ x ∷ [])
  once_more old x once new i j y at_i at_j = ⊎_elim
      (λ (old_i : slice_get old i ≡ Some y). ⊎_elim
      (λ (old_j : slice_get old j ≡ Some y). once i j y old_i old_j)
      (λ last. absurd (new (subst (Contains old) (sym last.1) (contains_from_get old i y old_i))))
      (get_push_cases old x j y at_j))
      (λ first. ⊎_elim
      (λ (old_j : slice_get old j ≡ Some y). absurd (new (subst (Contains old) (sym first.1) (contains_from_get old j y old_j))))
      (λ last. first.0 ∙ sym last.0)
      (get_push_cases old x j y at_j))
      (get_push_cases old x i y at_i)

  pub once_grown : (old new : List X) (x : X) (number : ℕ) → IsGrown old new x number → IsOnce old → IsOnce new
  once_grown old new x number grown once = ⊎_elim
      (λ (same : new ≡ old). subst IsOnce (sym same) once)
      (λ more. subst IsOnce (sym more.2) (once_more old x once more.1))
      grown

  pub kept_grown : (old new : List X) (x : X) (number : ℕ) → IsGrown old new x number → IsKept old new
  kept_grown old new x number grown k y at = ⊎_elim
      (λ (same : new ≡ old). subst (λ (xs : List X). slice_get xs k ≡ Some y) (sym same) at)
      (λ more. subst (λ (xs : List X). slice_get xs k ≡ Some y) (sym more.2) (get_left old (x ∷ []) k y at))
      grown

  pub kept_within : (old new : List X) → IsKept old new → (k : ℕ) → k < length old → k < length new
  kept_within old new stays k less = let found = get_within old k less in slice_get_within new k found.0 (stays k found.0 found.1)

  pub kept_length : (old new : List X) → IsKept old new → length old ≤ length new
  kept_length [] new stays = omega arith
  kept_length (x ∷ old) new stays = let last = kept_within (x ∷ old) new stays (length old) (omega arith) in omega arith

  -- `test` says which items are `x`
  module _ (x : X) (test : X → Bool) (same : (k : X) → test k ≡ true → x ≡ k) (itself : test x ≡ true) where
    not_among : (old : List X) → list_any test old ≡ false → Contains old x → ⊥
    not_among old none among = false≢true (sym none ∙ list_any_at test old among.0 x among.1 (ap test among.2 ∙ itself))

    put_cases : (old new : List X) (number : ℕ) (t : Bool) → list_any test old ≡ t → new ≡ (if t then old else old ++ x ∷ []) → slice_get new number ≡ Some x → IsGrown old new x number
    put_cases old new number true any is at = inl is
    put_cases old new number false any is at = ⊎_elim
        (λ (there : slice_get old number ≡ Some x). absurd (not_among old any (contains_from_get old number x there)))
        (λ last. inr (last.0, not_among old any, is))
        (get_push_cases old x number x (subst (λ (xs : List X). slice_get xs number ≡ Some x) is at))

    -- from what the insertion into a set says
    pub has_number : (old new : List X) (number : ℕ) → new ≡ (if list_any test old then old else old ++ x ∷ []) → (k : X) × (slice_get new number ≡ Some k) × (test k ≡ true) → HasNumber old new x number
    has_number old new number is stored =
        let at : slice_get new number ≡ Some x = stored.1 ∙ ap Some (sym (same stored.0 stored.2)) in
        record { is = at; grown = put_cases old new number (list_any test old) refl is at }

  pub number_first : (old new : List X) (x : X) (number : ℕ) → HasNumber old new x number → old ≡ [] → (new ≡ x ∷ []) × (number ≡ 0)
  number_first old new x number has none = ⊎_elim
      (λ (same : new ≡ old). absurd (none-some x (subst (λ (xs : List X). slice_get xs number ≡ Some x) (same ∙ none) has.is)))
      (λ more. (more.2 ∙ ap (λ (xs : List X). xs ++ x ∷ []) none, more.0 ∙ ap length none))
      has.grown

-- tests of equality
and_parts : (s t : Bool) → (s && t) ≡ true → (s ≡ true) × (t ≡ true)
and_parts true t is = (refl, is)
and_parts false t is = absurd (false≢true is)

option_same : (a b : Option ℕ) → option_eq eqb a b ≡ true → a ≡ b
option_same None None is = refl
option_same None (Some n) is = absurd (false≢true is)
option_same (Some m) None is = absurd (false≢true is)
option_same (Some m) (Some n) is = ap Some (eqb-true m n is)

option_itself : (a : Option ℕ) → option_eq eqb a a ≡ true
option_itself None = refl
option_itself (Some n) = eq-eqb n n refl

abbrev pub is_frame : Frame → Frame → Bool
is_frame a b = option_eq eqb a.parent b.parent && (eqb a.returns b.returns && eqb a.callee b.callee)

pub frame_same : (a b : Frame) → is_frame a b ≡ true → a ≡ b
frame_same a b is =
    let parts = and_parts (option_eq eqb a.parent b.parent) (eqb a.returns b.returns && eqb a.callee b.callee) is in
    let later = and_parts (eqb a.returns b.returns) (eqb a.callee b.callee) parts.1 in
    ap (λ (o : Option ℕ). record { parent = o; returns = a.returns; callee = a.callee }) (option_same a.parent b.parent parts.0)
    ∙ ap (λ (n : ℕ). record { parent = b.parent; returns = n; callee = a.callee }) (eqb-true a.returns b.returns later.0)
    ∙ ap (λ (n : ℕ). record { parent = b.parent; returns = b.returns; callee = n }) (eqb-true a.callee b.callee later.1)

pub frame_itself : (a : Frame) → is_frame a a ≡ true
frame_itself a = rw (option_itself a.parent, eq-eqb a.returns a.returns refl, eq-eqb a.callee a.callee refl) refl

abbrev pub is_place : Place → Place → Bool
is_place a b = eqb a.frame b.frame && eqb a.pc b.pc

pub place_same : (a b : Place) → is_place a b ≡ true → a ≡ b
place_same a b is =
    let parts = and_parts (eqb a.frame b.frame) (eqb a.pc b.pc) is in
    ap (λ (n : ℕ). record { frame = n; pc = a.pc }) (eqb-true a.frame b.frame parts.0)
    ∙ ap (λ (n : ℕ). record { frame = b.frame; pc = n }) (eqb-true a.pc b.pc parts.1)

pub place_itself : (a : Place) → is_place a a ≡ true
place_itself a = rw (eq-eqb a.frame a.frame refl, eq-eqb a.pc a.pc refl) refl
