-- The copies of the sessions, where a value changes for one of them.
use Rattle.std.proofs.Common.{ℕ, zero, suc, ◌≡◌, ◌≢◌, ◌<◌, ◌⊎◌, ◌==◌, ◌&&◌, Bool, true, false, cond, if◌then◌else◌, inl, inr, ⊎_elim, List, [], ◌∷◌, Option, None, Some, IsSome, is_some, is_none, map, length, set, get_or, refl, sym, ap, ap₂, subst, ◌∙◌, arith}
use Rattle.std.specs.List.{All, find}
use Rattle.std.specs.Option.{option_and_then, option_map}
use Rattle.std.proofs.lemmas.Bool.{and_parts, cases_Bool, eq-eqb, eqb-true, false≢true, true≢false}
use Rattle.std.proofs.lemmas.List.{get_or-set_same}
use Rattle.std.proofs.lemmas.Option.{none-some, same_Some}
use Rattle.wc_model.specs.Workspace.History.{key_with}
use Rattle.wc_model.specs.Workspace.States.{in_store, same_name}
use Rattle.wc_core.specs.Inner.Lines.{AreApart, Line, copy_for, names, row_of}
use Rattle.wc_core.specs.Inner.Shelves.{KnownShelf, copy_of, shelf_filled, shelf_taken}
use Rattle.wc_core.proofs.LineLemmas.{name_is}
use Rattle.wc_core.proofs.ShelfLemmas.{Keeps, copy_is, find_shelf, found_here, found_other, keeps_filled, keeps_taken, lines_changed, stored_is}

-- one key of one session
abbrev pub IsThis : List ℕ → ℕ → ℕ → ℕ → List ℕ → ℕ → ℕ → ℕ → Type 0
IsThis name kind stamp session n k s y = (n ≡ name) × (k ≡ kind) × (s ≡ stamp) × (y ≡ session)

pub same_name_refl : (a : List ℕ) → same_name a a ≡ true
same_name_refl [] = refl
same_name_refl (x ∷ a) = ap₂ (λ b c. b && c) (eq-eqb x x refl) (same_name_refl a)

decided : {A : Type 0} (b : Bool) → (b ≡ true → A) → (A → b ≡ true) → A ⊎ (A → ⊥)
decided true yes_ back = inl (yes_ refl)
decided false yes_ back = inr (λ a. false≢true (back a))

pub this_or : (name : List ℕ) (kind stamp session : ℕ) (n : List ℕ) (k s y : ℕ) → IsThis name kind stamp session n k s y ⊎ (IsThis name kind stamp session n k s y → ⊥)
this_or name kind stamp session n k s y =
    decided (((same_name n name && k == kind) && s == stamp) && y == session)
    (λ is.
    let a = and_parts ((same_name n name && k == kind) && s == stamp) (y == session) is in
    let b = and_parts (same_name n name && k == kind) (s == stamp) a.0 in
    let c = and_parts (same_name n name) (k == kind) b.0 in
    (name_is n name c.0, eqb-true k kind c.1, eqb-true s stamp b.1, eqb-true y session a.1))
    (λ (this : IsThis name kind stamp session n k s y). ap₂ (λ p q. p && q) (ap₂ (λ p q. p && q) (ap₂ (λ p q. p && q) (ap (λ m. same_name n m) (sym this.0) ∙ same_name_refl n) (eq-eqb k kind this.1)) (eq-eqb s stamp this.2)) (eq-eqb y session this.3))

abbrev IsKey : List ℕ → ℕ → ℕ → List ℕ → ℕ → ℕ → Type 0
IsKey name kind stamp n k s = (n ≡ name) × (k ≡ kind) × (s ≡ stamp)

key_or : (name : List ℕ) (kind stamp : ℕ) (n : List ℕ) (k s : ℕ) → IsKey name kind stamp n k s ⊎ (IsKey name kind stamp n k s → ⊥)
key_or name kind stamp n k s =
    decided ((same_name n name && k == kind) && s == stamp)
    (λ is.
    let b = and_parts (same_name n name && k == kind) (s == stamp) is in
    let c = and_parts (same_name n name) (k == kind) b.0 in
    (name_is n name c.0, eqb-true k kind c.1, eqb-true s stamp b.1))
    (λ (this : IsKey name kind stamp n k s). ap₂ (λ p q. p && q) (ap₂ (λ p q. p && q) (ap (λ m. same_name n m) (sym this.0) ∙ same_name_refl n) (eq-eqb k kind this.1)) (eq-eqb s stamp this.2))

pub is_some_of : {A : Type 0} (o : Option A) (a : A) → o ≡ Some a → IsSome o
is_some_of o a is = subst (λ x. IsSome x) (sym is) refl

module _ {C : Type 0} (session : ℕ) (g : KnownShelf C → KnownShelf C) (keeps : Keeps session g) (name : List ℕ) (kind stamp : ℕ) (ls : List (Line C)) where
  other_shelf : (y : ℕ) (o : Option (KnownShelf C)) → y ≢ session → option_and_then (copy_of y) (option_map g o) ≡ option_and_then (copy_of y) o
  other_shelf y None apart = refl
  other_shelf y (Some s) apart = keeps.other y s apart

  other_session : (y : ℕ) → y ≢ session → copy_for name kind stamp y (lines_changed name kind stamp g ls) ≡ copy_for name kind stamp y ls
  other_session y apart =
      copy_is name kind stamp y (lines_changed name kind stamp g ls) ∙ ap (option_and_then (copy_of y)) (found_here session g keeps name kind stamp ls)
      ∙ other_shelf y (find_shelf name kind stamp ls) apart ∙ sym (copy_is name kind stamp y ls)

  other_key : (n : List ℕ) (k s y : ℕ) → (IsKey name kind stamp n k s → ⊥) → copy_for n k s y (lines_changed name kind stamp g ls) ≡ copy_for n k s y ls
  other_key n k s y apart =
      copy_is n k s y (lines_changed name kind stamp g ls) ∙ ap (option_and_then (copy_of y)) (found_other session g keeps name kind stamp n k s ls (λ a b c. apart (a, b, c)))
      ∙ sym (copy_is n k s y ls)

  pub copy_other : (n : List ℕ) (k s y : ℕ) → (IsThis name kind stamp session n k s y → ⊥) → copy_for n k s y (lines_changed name kind stamp g ls) ≡ copy_for n k s y ls
  copy_other n k s y apart =
      ⊎_elim (λ (is : IsKey name kind stamp n k s).
      let at : (y ≢ session) = λ same. apart (is.0, is.1, is.2, same) in
      ap (λ m. copy_for m k s y (lines_changed name kind stamp g ls)) is.0 ∙ ap₂ (λ a b. copy_for name a b y (lines_changed name kind stamp g ls)) is.1 is.2
      ∙ other_session y at
      ∙ sym (ap (λ m. copy_for m k s y ls) is.0 ∙ ap₂ (λ a b. copy_for name a b y ls) is.1 is.2))
      (λ (other : IsKey name kind stamp n k s → ⊥). other_key n k s y other)
      (key_or name kind stamp n k s)

  pub copy_here : copy_for name kind stamp session (lines_changed name kind stamp g ls) ≡ option_and_then (copy_of session) (option_map g (find_shelf name kind stamp ls))
  copy_here = copy_is name kind stamp session (lines_changed name kind stamp g ls) ∙ ap (option_and_then (copy_of session)) (found_here session g keeps name kind stamp ls)

-- a copy is taken out
pub set_none : {A : Type 0} (xs : List (Option A)) (i : ℕ) → get_or (set xs i None) i None ≡ None
set_none [] i = refl
set_none (x ∷ xs) zero = refl
set_none (x ∷ xs) (suc i) = set_none xs i

module _ {C : Type 0} (session : ℕ) (name : List ℕ) (kind stamp : ℕ) (ls : List (Line C)) where
  gone_shelf : (o : Option (KnownShelf C)) → option_and_then (copy_of session) (option_map (shelf_taken session) o) ≡ None
  gone_shelf None = refl
  gone_shelf (Some s) = set_none s.copies session

  pub taken_gone : copy_for name kind stamp session (lines_changed name kind stamp (shelf_taken session) ls) ≡ None
  taken_gone = copy_here session (shelf_taken session) (keeps_taken session) name kind stamp ls ∙ gone_shelf (find_shelf name kind stamp ls)

  -- only what was there
  pub taken_was : (n : List ℕ) (k s y : ℕ) (a : C) → copy_for n k s y (lines_changed name kind stamp (shelf_taken session) ls) ≡ Some a → copy_for n k s y ls ≡ Some a
  taken_was n k s y a is =
      ⊎_elim (λ (this : IsThis name kind stamp session n k s y).
      absurd (none-some a (sym (ap (λ m. copy_for m k s y (lines_changed name kind stamp (shelf_taken session) ls)) this.0 ∙ ap₂ (λ b c. copy_for name b c y (lines_changed name kind stamp (shelf_taken session) ls)) this.1 this.2 ∙ ap (λ z. copy_for name kind stamp z (lines_changed name kind stamp (shelf_taken session) ls)) this.3 ∙ taken_gone) ∙ is)))
      (λ (other : IsThis name kind stamp session n k s y → ⊥). sym (copy_other session (shelf_taken session) (keeps_taken session) name kind stamp ls n k s y other) ∙ is)
      (this_or name kind stamp session n k s y)

  -- a copy is put in
  filled_case : (copy a : C) (s : KnownShelf C) (old : Option C) → copy_of session s ≡ old → copy_of session (if is_none old then record s { copies = set s.copies session (Some copy) } else s) ≡ Some a → (copy_of session s ≡ Some a) ⊎ (a ≡ copy)
  filled_case copy a s (Some b) was is = inl is
  filled_case copy a s None was is = inr (or_none (s.copies) is) where
    or_none : (xs : List (Option C)) → get_or (set xs session (Some copy)) session None ≡ Some a → a ≡ copy
    or_none xs at = at_place xs session at where
      at_place : (ys : List (Option C)) (i : ℕ) → get_or (set ys i (Some copy)) i None ≡ Some a → a ≡ copy
      at_place [] i at = absurd (none-some a at)
      at_place (y ∷ ys) zero at = sym (same_Some copy a at)
      at_place (y ∷ ys) (suc i) at = at_place ys i at

  filled_shelf : (copy a : C) (o : Option (KnownShelf C)) → option_and_then (copy_of session) (option_map (shelf_filled session copy) o) ≡ Some a → (option_and_then (copy_of session) o ≡ Some a) ⊎ (a ≡ copy)
  filled_shelf copy a None is = absurd (none-some a is)
  filled_shelf copy a (Some s) is = filled_case copy a s (copy_of session s) refl is

  pub filled_or : (copy : C) (n : List ℕ) (k s y : ℕ) (a : C) → copy_for n k s y (lines_changed name kind stamp (shelf_filled session copy) ls) ≡ Some a → (copy_for n k s y ls ≡ Some a) ⊎ ((n ≡ name) × (k ≡ kind) × (s ≡ stamp) × (a ≡ copy))
  filled_or copy n k s y a is =
      ⊎_elim (λ (this : IsThis name kind stamp session n k s y).
      let there = ap (λ m. copy_for m k s y (lines_changed name kind stamp (shelf_filled session copy) ls)) this.0 ∙ ap₂ (λ b c. copy_for name b c y (lines_changed name kind stamp (shelf_filled session copy) ls)) this.1 this.2 ∙ ap (λ z. copy_for name kind stamp z (lines_changed name kind stamp (shelf_filled session copy) ls)) this.3 in
      let here = ap (λ m. copy_for m k s y ls) this.0 ∙ ap₂ (λ b c. copy_for name b c y ls) this.1 this.2 ∙ ap (λ z. copy_for name kind stamp z ls) this.3 in
      ⊎_elim (λ (old : option_and_then (copy_of session) (find_shelf name kind stamp ls) ≡ Some a). inl (here ∙ copy_is name kind stamp session ls ∙ old))
      (λ (new : a ≡ copy). inr (this.0, this.1, this.2, new))
      (filled_shelf copy a (find_shelf name kind stamp ls) (sym (copy_here session (shelf_filled session copy) (keeps_filled session copy) name kind stamp ls) ∙ sym there ∙ is)))
      (λ (other : IsThis name kind stamp session n k s y → ⊥). inl (sym (copy_other session (shelf_filled session copy) (keeps_filled session copy) name kind stamp ls n k s y other) ∙ is))
      (this_or name kind stamp session n k s y)

  full_case : (copy : C) (s : KnownShelf C) (old : Option C) → copy_of session s ≡ old → session < length s.copies → IsSome (copy_of session (if is_none old then record s { copies = set s.copies session (Some copy) } else s))
  full_case copy s (Some b) was within = subst (λ x. IsSome x) (sym was) refl
  full_case copy s None was within = subst (λ x. IsSome x) (sym (get_or-set_same s.copies session (Some copy) None within)) refl

  full_shelf : (copy : C) (o : Option (KnownShelf C)) → IsSome o → ((s : KnownShelf C) → o ≡ Some s → session < length s.copies) → IsSome (option_and_then (copy_of session) (option_map (shelf_filled session copy) o))
  full_shelf copy None is wide = absurd (false≢true is)
  full_shelf copy (Some s) is wide = full_case copy s (copy_of session s) refl (wide s refl)

  pub filled_full : (copy : C) → IsSome (find_shelf name kind stamp ls) → ((s : KnownShelf C) → find_shelf name kind stamp ls ≡ Some s → session < length s.copies) → IsSome (copy_for name kind stamp session (lines_changed name kind stamp (shelf_filled session copy) ls))
  filled_full copy is wide = subst (λ x. IsSome x) (sym (copy_here session (shelf_filled session copy) (keeps_filled session copy) name kind stamp ls)) (full_shelf copy (find_shelf name kind stamp ls) is wide)
