-- Which kinds stand in a list, and what the descriptions of a list say of a kind.
use Rattle.std.proofs.Common.{ℕ, zero, suc, ◌≡◌, ◌<◌, ◌==◌, ◌||◌, Bool, true, false, cond, inl, inr, ⊎_elim, List, [], ◌∷◌, Option, None, Some, refl, sym, ap, subst, ◌∙◌, arith}
use Rattle.std.specs.Prelude.{◌⊎◌}
use Rattle.std.specs.List.{Contains, find, list_all, list_any, slice_get}
use Rattle.std.specs.Option.{option_map_or}
use Rattle.std.proofs.lemmas.Bool.{and_cases, cases_order, eq-eqb, eqb-true, false_from_ne_true, false≢true, or_cases, or_from, true≢false}
use Rattle.std.proofs.lemmas.List.Elements.{All-contains, Contains-append_left, Contains-append_right, Contains-push}
use Rattle.std.proofs.lemmas.List.Folds.{list_any_at}
use Rattle.std.proofs.lemmas.List.Sums.{AllPass-from_list_all}
use Rattle.std.proofs.lemmas.Option.{none-some, same_Some}
use Rattle.wc_model.specs.declared.kinds.Describe.{Describe}
use Rattle.wc_model.specs.declared.kinds.Part.{Part}
use Rattle.wc_model.specs.Workspace.Closures.{describe_of, has_kind, reads_of, requires_of}
use Rattle.wc_model.specs.Workspace.Registry.{IsDoubled, IsProvided, Requires, directly, through}
use Rattle.wc_model.proofs.Places.{get_from_contains}
use Rattle.wc_registry.specs.Sound.{NoneWith}

-- elements that pass a test

pub first_there : {X : Type 0} (x : X) (xs : List X) → Contains (x ∷ xs) x
first_there x xs = Contains-append_left (x ∷ []) xs x (Contains-push [] x)

pub later_there : {X : Type 0} (x y : X) (xs : List X) → Contains xs y → Contains (x ∷ xs) y
later_there x y xs there = Contains-append_right (x ∷ []) xs y there

pub none_there : {X : Type 0} (x : X) → Contains [] x → ⊥
none_there x there = omega (arith, there.1)

pub cons_cases : {X : Type 0} (x : X) (xs : List X) (y : X) → Contains (x ∷ xs) y → (x ≡ y) ⊎ Contains xs y
cons_cases x xs y (zero, within, is) = inl is
cons_cases x xs y (suc k, within, is) = inr (k, omega arith, is)

pub any_at : {X : Type 0} (p : X → Bool) (xs : List X) → list_any p xs ≡ true → (x : X) × Contains xs x × (p x ≡ true)
any_at p [] passes = absurd (false≢true passes)
any_at {X} p (x ∷ xs) passes =
    ⊎_elim (λ (here : p x ≡ true). (x, first_there x xs, here))
    (λ (later : list_any p xs ≡ true).
    let found : (y : X) × Contains xs y × (p y ≡ true) = any_at p xs later in
    (found.0, later_there x found.0 xs found.1, found.2))
    (or_cases (p x) (list_any p xs) passes)

pub any_from : {X : Type 0} (p : X → Bool) (xs : List X) (x : X) → Contains xs x → p x ≡ true → list_any p xs ≡ true
any_from p xs x there passes = list_any_at p xs there.0 x there.1 (ap p there.2 ∙ passes)

pub all_at : {X : Type 0} (p : X → Bool) (xs : List X) (x : X) → list_all p xs ≡ true → Contains xs x → p x ≡ true
all_at {X} p xs x passes there = All-contains (λ (y : X). p y ≡ true) xs x (AllPass-from_list_all p xs passes) there

pub one_fails : {X : Type 0} (p : X → Bool) (xs : List X) → list_all p xs ≡ false → (x : X) × Contains xs x × (p x ≡ false)
one_fails p [] fails = absurd (true≢false fails)
one_fails {X} p (x ∷ xs) fails =
    ⊎_elim (λ (here : p x ≡ false). (x, first_there x xs, here))
    (λ (later : list_all p xs ≡ false).
    let found : (y : X) × Contains xs y × (p y ≡ false) = one_fails p xs later in
    (found.0, later_there x found.0 xs found.1, found.2))
    (and_cases (p x) (list_all p xs) fails)

found_case : {X : Type 0} (p : X → Bool) (x y : X) (xs : List X) (passes : Bool) → p x ≡ passes → cond passes (Some x) (find p xs) ≡ Some y → (find p xs ≡ Some y → Contains xs y × (p y ≡ true)) → Contains (x ∷ xs) y × (p y ≡ true)
found_case {X} p x y xs true test is later =
    let same : x ≡ y = same_Some x y is in
    (subst (λ (z : X). Contains (x ∷ xs) z) same (first_there x xs), ap p (sym same) ∙ test)
found_case p x y xs false test is later = (later_there x y xs (later is).0, (later is).1)

pub found_at : {X : Type 0} (p : X → Bool) (xs : List X) (y : X) → find p xs ≡ Some y → Contains xs y × (p y ≡ true)
found_at p [] y is = absurd (none-some y is)
found_at p (x ∷ xs) y is = found_case p x y xs (p x) refl is (λ later. found_at p xs y later)

none_case : {X : Type 0} (p : X → Bool) (x : X) (xs : List X) (passes : Bool) → cond passes (Some x) (find p xs) ≡ None → (passes ≡ false) × (find p xs ≡ None)
none_case p x xs true is = absurd (none-some x (sym is))
none_case p x xs false is = (refl, is)

pub none_found : {X : Type 0} (p : X → Bool) (xs : List X) → find p xs ≡ None → list_any p xs ≡ false
none_found p [] is = refl
none_found p (x ∷ xs) is = let parts : (p x ≡ false) × (find p xs ≡ None) = none_case p x xs (p x) is in neither (p x) (list_any p xs) parts.0 (none_found p xs parts.1)
  where
    neither : (a b : Bool) → a ≡ false → b ≡ false → (a || b) ≡ false
    neither a b one other = or_from a b one other

pub each_fails : {X : Type 0} (p : X → Bool) (xs : List X) → find p xs ≡ None → (x : X) → Contains xs x → p x ≡ false
each_fails p xs is x there = false_from_ne_true (p x) (λ passes. false≢true (sym (none_found p xs is) ∙ any_from p xs x there passes))

pub has_there : (k : ℕ) (kinds : List ℕ) → has_kind k kinds ≡ true → Contains kinds k
has_there k kinds has =
    let found : (j : ℕ) × Contains kinds j × ((j == k) ≡ true) = any_at (λ j. j == k) kinds has in
    subst (λ (j : ℕ). Contains kinds j) (eqb-true found.0 k found.2) found.1

pub there_has : (k : ℕ) (kinds : List ℕ) → Contains kinds k → has_kind k kinds ≡ true
there_has k kinds there = any_from (λ j. j == k) kinds k there (eq-eqb k k refl)

-- Where no kind is provided twice, a description is that of its kind.
module _ (kinds : List Describe) where
  same_place : NoneWith (IsDoubled kinds) → (k i j : ℕ) (d e : Describe) → slice_get kinds i ≡ Some d → slice_get kinds j ≡ Some e → d.provides ≡ k → e.provides ≡ k → d ≡ e
  same_place single k i j d e at_i at_j is_d is_e =
      ⊎_elim (λ (same : i ≡ j). same_Some d e (sym at_i ∙ ap (λ n. slice_get kinds n) same ∙ at_j))
      (λ apart. ⊎_elim (λ (less : i < j). absurd (single k (i, j, d, e, less, at_i, at_j, is_d, is_e)))
      (λ (more : j < i). absurd (single k (j, i, e, d, more, at_j, at_i, is_e, is_d))) apart)
      (cases_order i j)

  described_as : NoneWith (IsDoubled kinds) → (d : Describe) → Contains kinds d → (o : Option Describe) → describe_of kinds d.provides ≡ o → o ≡ Some d
  described_as single d there None is = absurd (false≢true (sym (none_found (λ e. e.provides == d.provides) kinds is) ∙ any_from (λ e. e.provides == d.provides) kinds d there (eq-eqb d.provides d.provides refl)))
  described_as single d there (Some e) is =
      let found : Contains kinds e × ((e.provides == d.provides) ≡ true) = found_at (λ e. e.provides == d.provides) kinds e is in
      let at_e : (i : ℕ) × (slice_get kinds i ≡ Some e) = get_from_contains kinds e found.0 in
      let at_d : (i : ℕ) × (slice_get kinds i ≡ Some d) = get_from_contains kinds d there in
      ap Some (same_place single d.provides at_e.0 at_d.0 e d at_e.1 at_d.1 (eqb-true e.provides d.provides found.1) refl)

  pub described : NoneWith (IsDoubled kinds) → (d : Describe) → Contains kinds d → describe_of kinds d.provides ≡ Some d
  described single d there = described_as single d there (describe_of kinds d.provides) refl

  pub requires_at : NoneWith (IsDoubled kinds) → (d : Describe) → Contains kinds d → requires_of kinds d.provides ≡ d.requires_
  requires_at single d there = ap (λ o. option_map_or (λ e. e.requires_) o []) (described single d there)

  pub reads_at : NoneWith (IsDoubled kinds) → (d : Describe) → Contains kinds d → reads_of kinds d.provides ≡ d.reads
  reads_at single d there = ap (λ o. option_map_or (λ e. e.reads) o []) (described single d there)

  -- what a kind requires or reads stands in a description of it
  requires_case : (k j : ℕ) (o : Option Describe) → describe_of kinds k ≡ o → Contains (option_map_or (λ d. d.requires_) o []) j → (d : Describe) × Contains kinds d × (d.provides ≡ k) × Contains d.requires_ j
  requires_case k j None is there = absurd (none_there j there)
  requires_case k j (Some d) is there = let found : Contains kinds d × ((d.provides == k) ≡ true) = found_at (λ d. d.provides == k) kinds d is in (d, found.0, eqb-true d.provides k found.1, there)

  pub requires_from : (k j : ℕ) → Contains (requires_of kinds k) j → (d : Describe) × Contains kinds d × (d.provides ≡ k) × Contains d.requires_ j
  requires_from k j there = requires_case k j (describe_of kinds k) refl there

  reads_case : (k : ℕ) (part : Part) (o : Option Describe) → describe_of kinds k ≡ o → Contains (option_map_or (λ d. d.reads) o []) part → (d : Describe) × Contains kinds d × (d.provides ≡ k) × Contains d.reads part
  reads_case k part None is there = absurd (none_there part there)
  reads_case k part (Some d) is there = let found : Contains kinds d × ((d.provides == k) ≡ true) = found_at (λ d. d.provides == k) kinds d is in (d, found.0, eqb-true d.provides k found.1, there)

  pub reads_from : (k : ℕ) (part : Part) → Contains (reads_of kinds k) part → (d : Describe) × Contains kinds d × (d.provides ≡ k) × Contains d.reads part
  reads_from k part there = reads_case k part (describe_of kinds k) refl there

  pub requires_through : {k i j : ℕ} → Requires kinds k i → Requires kinds i j → Requires kinds k j
  requires_through way (directly there) = through way there
  requires_through way (through more there) = through (requires_through way more) there

  -- the first step of a chain of requirements
  pub first_step : {k j : ℕ} → Requires kinds k j → Contains (requires_of kinds k) j ⊎ ((i : ℕ) × Contains (requires_of kinds k) i × Requires kinds i j)
  first_step (directly there) = inl there
  first_step (through {i = i} way there) =
      ⊎_elim (λ first. inr (i, first, directly there))
      (λ later. inr (later.0, later.1, through later.2 there))
      (first_step way)

  pub requires_provided : {k j : ℕ} → Requires kinds k j → IsProvided kinds k
  requires_provided (directly {j = j} there) = let found = requires_from _ j there in (found.0, found.1, found.2)
  requires_provided (through way there) = requires_provided way
