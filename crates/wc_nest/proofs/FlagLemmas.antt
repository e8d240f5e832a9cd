-- Flags, filters and tests.
use Rattle.std.proofs.Common.{ℕ, zero, suc, ◌≡◌, ◌<◌, ◌≤◌, ◌⊎◌, inl, inr, ⊎_elim, Bool, true, false, not, List, [], ◌∷◌, Some, length, set, refl, sym, ap, subst, ◌∙◌, arith}
use Rattle.std.specs.List.{Contains, slice_get, slice_index_or, filter}
use Rattle.std.proofs.lemmas.Bool.{cases_eq}
use Rattle.std.proofs.lemmas.Bool.Decides.{eqb_tells}
use Rattle.std.proofs.lemmas.List.{length-set}
use Rattle.std.proofs.lemmas.Option.{none-some, same_Some, slice_get_within}
use Rattle.wc_model.proofs.Places.{get_set, get_set_other, get_set_cases}
use Rattle.wc_nest.specs.declared.marking.Mark.{Mark}
use Rattle.wc_nest.specs.declared.ways.Way.{Way}
use Rattle.wc_nest.specs.Inner.Levels.{flag_one, flag_all, class_number, number_of, stays, is_entered}
use Rattle.wc_nest.specs.Inner.Marking.{IsOf}
use Rattle.wc_nest.proofs.ListLemmas.{contains_head, contains_tail, empty_contains}

pub contains_cases : {X : Type 0} (y : X) (xs : List X) (x : X) → Contains (y ∷ xs) x → (y ≡ x) ⊎ Contains xs x
contains_cases y xs x (zero, within, is) = inl is
contains_cases y xs x (suc k, within, is) = inr (k, omega arith, is)

pub true_or_false : (b : Bool) → (b ≡ true) ⊎ (b ≡ false)
true_or_false true = inl refl
true_or_false false = inr refl

pub not_both : {b : Bool} → b ≡ true → b ≡ false → ⊥
not_both yes_b no_b = let e : true ≡ false = sym yes_b ∙ no_b in cc

module _ {X : Type 0} (test : X → Bool) (place : X → ℕ) where
  one_length : (flags : List Bool) (x : X) (b : Bool) → test x ≡ b → length (flag_one test place flags x) ≡ length flags
  one_length flags x true is = rw is (length-set flags (place x) true)
  one_length flags x false is = rw is refl

  pub length-flag_all : (flags : List Bool) (xs : List X) → length (flag_all test place flags xs) ≡ length flags
  length-flag_all flags [] = refl
  length-flag_all flags (x ∷ xs) = length-flag_all (flag_one test place flags x) xs ∙ one_length flags x (test x) refl

  one_kept : (flags : List Bool) (x : X) (q : ℕ) (b : Bool) → test x ≡ b → slice_get flags q ≡ Some true → slice_get (flag_one test place flags x) q ≡ Some true
  one_kept flags x q true is at = rw is (⊎_elim
      (λ (same : q ≡ place x). subst (λ (z : ℕ). slice_get (set flags (place x) true) z ≡ Some true) (sym same) (get_set flags (place x) true (subst (λ (z : ℕ). z < length flags) same (slice_get_within flags q true at))))
      (λ (other : q ≡ place x → ⊥). get_set_other flags (place x) q true true other at)
      (cases_eq q (place x)))
  one_kept flags x q false is at = rw is at

  pub flag_kept : (flags : List Bool) (xs : List X) (q : ℕ) → slice_get flags q ≡ Some true → slice_get (flag_all test place flags xs) q ≡ Some true
  flag_kept flags [] q at = at
  flag_kept flags (x ∷ xs) q at = flag_kept (flag_one test place flags x) xs q (one_kept flags x q (test x) refl at)

  -- an element that passes sets its flag
  pub flag_set : (flags : List Bool) (xs : List X) (x : X) → Contains xs x → test x ≡ true → place x < length flags → slice_get (flag_all test place flags xs) (place x) ≡ Some true
  flag_set flags [] x among passes known = absurd (empty_contains x among)
  flag_set flags (y ∷ xs) x among passes known = ⊎_elim
      (λ (same : y ≡ x). flag_kept (flag_one test place flags y) xs (place x) (subst (λ (z : X). slice_get (flag_one test place flags z) (place x) ≡ Some true) (sym same) (rw passes (get_set flags (place x) true known))))
      (λ (later : Contains xs x). flag_set (flag_one test place flags y) xs x later passes (omega (arith, one_length flags y (test y) refl)))
      (contains_cases y xs x among)

  one_from : (flags : List Bool) (x : X) (q : ℕ) (b : Bool) → test x ≡ b → slice_get (flag_one test place flags x) q ≡ Some true → (slice_get flags q ≡ Some true) ⊎ ((test x ≡ true) × (place x ≡ q))
  one_from flags x q true is at = ⊎_elim (λ here. inr (is, sym here.0)) (λ other. inl other.1) (get_set_cases flags (place x) q true true (rw is at at))
  one_from flags x q false is at = inl (rw is at at)

  -- a flag that is set was so before, or an element set it
  pub flag_from : (flags : List Bool) (xs : List X) (q : ℕ) → slice_get (flag_all test place flags xs) q ≡ Some true → (slice_get flags q ≡ Some true) ⊎ ((x : X) × Contains xs x × (test x ≡ true) × (place x ≡ q))
  flag_from flags [] q at = inl at
  flag_from flags (x ∷ xs) q at = ⊎_elim
      (λ before. ⊎_elim (λ old. inl old) (λ new. inr (x, contains_head x xs, new.0, new.1)) (one_from flags x q (test x) refl before))
      (λ later. inr (later.0, contains_tail x xs later.0 later.1, later.2, later.3))
      (flag_from (flag_one test place flags x) xs q at)

module _ {X : Type 0} (test : X → Bool) where
  in_filter : (x : X) (xs : List X) (b : Bool) → test x ≡ b → (y : X) → Contains (filter test (x ∷ xs)) y → ((x ≡ y) × (test x ≡ true)) ⊎ Contains (filter test xs) y
  in_filter x xs true is y among = ⊎_elim (λ (same : x ≡ y). inl (same, is)) (λ (later : Contains (filter test xs) y). inr later) (contains_cases x (filter test xs) y (rw is at among))
  in_filter x xs false is y among = inr (rw is at among)

  pub filter_from : (xs : List X) (y : X) → Contains (filter test xs) y → Contains xs y × (test y ≡ true)
  filter_from [] y among = absurd (empty_contains y among)
  filter_from (x ∷ xs) y among = ⊎_elim
      (λ now. (subst (λ (z : X). Contains (x ∷ xs) z) now.0 (contains_head x xs), subst (λ (z : X). test z ≡ true) now.0 now.1))
      (λ later. let before = filter_from xs y later in (contains_tail x xs y before.0, before.1))
      (in_filter x xs (test x) refl y among)

  to_filter : (x : X) (xs : List X) (y : X) (b : Bool) → test x ≡ b → test y ≡ true → ((x ≡ y) ⊎ Contains (filter test xs) y) → Contains (filter test (x ∷ xs)) y
  to_filter x xs y true is passes either = rw is (⊎_elim (λ (same : x ≡ y). subst (λ (z : X). Contains (x ∷ filter test xs) z) same (contains_head x (filter test xs))) (λ (later : Contains (filter test xs) y). contains_tail x (filter test xs) y later) either)
  to_filter x xs y false is passes either = rw is (⊎_elim (λ (same : x ≡ y). absurd (not_both (subst (λ (z : X). test z ≡ true) (sym same) passes) is)) (λ (later : Contains (filter test xs) y). later) either)

  pub filter_to : (xs : List X) (y : X) → Contains xs y → test y ≡ true → Contains (filter test xs) y
  filter_to [] y among passes = absurd (empty_contains y among)
  filter_to (x ∷ xs) y among passes = to_filter x xs y (test x) refl passes (⊎_elim (λ (same : x ≡ y). inl same) (λ (later : Contains xs y). inr (filter_to xs y later passes)) (contains_cases x xs y among))

  filter_one : (x : X) (xs : List X) (b : Bool) → test x ≡ b → length (filter test (x ∷ xs)) ≤ suc (length (filter test xs))
  filter_one x xs true is = rw is (omega arith)
  filter_one x xs false is = rw is (omega arith)

  pub filter_least : (xs : List X) → length (filter test xs) ≤ length xs
  filter_least [] = omega arith
  filter_least (x ∷ xs) = omega (arith, filter_one x xs (test x) refl, filter_least xs)

  -- an element that fails makes it shorter
  pub filter_shorter : (xs : List X) (y : X) → Contains xs y → test y ≡ false → length (filter test xs) < length xs
  filter_shorter [] y among fails = absurd (empty_contains y among)
  filter_shorter (x ∷ xs) y among fails = ⊎_elim
      (λ (same : x ≡ y). let is : test x ≡ false = subst (λ (z : X). test z ≡ false) (sym same) fails in rw is (omega (arith, filter_least xs)))
      (λ (later : Contains xs y). omega (arith, filter_one x xs (test x) refl, filter_shorter xs y later fails))
      (contains_cases x xs y among)

-- numbers of classes
pub number_is : (marks : List Mark) (p c : ℕ) → IsOf marks p c → class_number marks p ≡ c
number_is marks p c at = ap number_of at

pub stays_same : (marks : List Mark) (w : Way) → stays marks w ≡ true → class_number marks w.source ≡ class_number marks w.target
stays_same marks w is = ⊎_elim (λ same. same.1) (λ other. absurd (not_both is other.0)) (eqb_tells (class_number marks w.source) (class_number marks w.target))

pub same_stays : (marks : List Mark) (w : Way) → class_number marks w.source ≡ class_number marks w.target → stays marks w ≡ true
same_stays marks w same = ⊎_elim (λ one. one.0) (λ other. absurd (other.1 same)) (eqb_tells (class_number marks w.source) (class_number marks w.target))

pub crosses_apart : (marks : List Mark) (w : Way) → not (stays marks w) ≡ true → class_number marks w.source ≡ class_number marks w.target → ⊥
crosses_apart marks w is same = let stays_w : stays marks w ≡ true = same_stays marks w same in let bad : not (stays marks w) ≡ false = rw stays_w refl in not_both is bad

pub apart_crosses : (marks : List Mark) (w : Way) → (class_number marks w.source ≡ class_number marks w.target → ⊥) → not (stays marks w) ≡ true
apart_crosses marks w apart = ⊎_elim (λ one. absurd (apart one.1)) (λ other. let is : stays marks w ≡ false = other.0 in rw is refl) (eqb_tells (class_number marks w.source) (class_number marks w.target))

-- a node that is flagged, or the start
pub flag_at : (flags : List Bool) (q : ℕ) → slice_index_or flags q false ≡ true → slice_get flags q ≡ Some true
flag_at [] q is = absurd (not_both is refl)
flag_at (b ∷ flags) zero is = ap Some is
flag_at (b ∷ flags) (suc q) is = flag_at flags q is

pub at_flag : (flags : List Bool) (q : ℕ) → slice_get flags q ≡ Some true → slice_index_or flags q false ≡ true
at_flag [] q at = absurd (none-some true at)
at_flag (b ∷ flags) zero at = same_Some b true at
at_flag (b ∷ flags) (suc q) at = at_flag flags q at

pub entered_cases : (flags : List Bool) (start q : ℕ) → is_entered flags start q ≡ true → (q ≡ start) ⊎ (slice_get flags q ≡ Some true)
entered_cases flags start q is = ⊎_elim
    (λ one. inl one.1)
    (λ other. let no_start = other.0 in inr (flag_at flags q (rw no_start at is)))
    (eqb_tells q start)

pub entered_start : (flags : List Bool) (start q : ℕ) → q ≡ start → is_entered flags start q ≡ true
entered_start flags start q same = ⊎_elim (λ one. let is = one.0 in rw is refl) (λ other. absurd (other.1 same)) (eqb_tells q start)

pub entered_flag : (flags : List Bool) (start q : ℕ) → slice_get flags q ≡ Some true → is_entered flags start q ≡ true
entered_flag flags start q at = ⊎_elim (λ one. let is = one.0 in rw is refl) (λ other. let is = other.0 in rw is (at_flag flags q at)) (eqb_tells q start)
