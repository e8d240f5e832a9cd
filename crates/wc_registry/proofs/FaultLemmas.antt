-- Steps of the loops that look for provided, doubled, missing and cyclic kinds.
use Rattle.std.proofs.Common.{ℕ, zero, suc, ◌≡◌, ◌+◌, ◌<◌, ◌≤◌, ◌==◌, ◌||◌, ◌&&◌, Bool, true, false, not, inl, inr, ⊎_elim, List, [], ◌∷◌, ◌++◌, Option, None, Some, length, take, get_or, replicate, refl, sym, ap, subst, ◌∙◌, arith}
use Rattle.std.specs.Prelude.{◌⊎◌, ◌↔◌}
use Rattle.std.specs.List.{Contains, slice_get, slice_index_or}
use Rattle.std.proofs.lemmas.Bool.{and_from, and_parts, cases_lt, eq-eqb, eqb-true, false_from_ne_true, false≢true, not-true, not_from_false, or_cases, or_left, or_right}
use Rattle.std.proofs.lemmas.List.{get_or_append_left, get_or_past, get_or_push, get_or_read, take_more}
use Rattle.std.proofs.lemmas.List.Elements.{Contains-append_left, Contains-push, Contains-push_cases}
use Rattle.std.proofs.lemmas.Option.{none-some, slice_get_within}
use Rattle.wc_model.specs.declared.kinds.Describe.{Describe}
use Rattle.wc_model.specs.Workspace.Closures.{has_kind}
use Rattle.wc_model.specs.Workspace.Registry.{IsCyclic, IsDoubled, IsLeastWith, IsProvided, Requires}
use Rattle.wc_model.proofs.Places.{contains_from_get, get_from_contains, get_left, get_push, get_push_cases}
use Rattle.wc_registry.specs.Inner.KindSets.{IsLeastOf, holds}
use Rattle.wc_registry.specs.Inner.Required.{AreProvided, AreDoubled, AreMissing, AreCyclic}
use Rattle.wc_registry.specs.Sound.{NoneWith}
use Rattle.wc_registry.proofs.KindLemmas.{has_there, none_there, requires_provided, there_has}

pub none_held : (n k : ℕ) → holds (replicate n false) k ≡ false
none_held zero k = refl
none_held (suc n) zero = refl
none_held (suc n) (suc k) = none_held n k

-- one element more of a list
pub one_more : (ds : List Describe) (i : ℕ) (d : Describe) → i < length ds → d ≡ get_or ds i d → take (i + 1) ds ≡ take i ds ++ d ∷ []
one_more ds i d within is = take_more ds i d within ∙ ap (λ (x : Describe). take i ds ++ x ∷ []) (sym is)

-- provided kinds
pub provided_none : (marks : List Bool) → ((k : ℕ) → holds marks k ≡ false) → AreProvided [] marks
provided_none marks empty k = (λ held. absurd (false≢true (sym (empty k) ∙ held)), λ is. absurd (none_there is.0 is.1))

pub provided_more : (ds : List Describe) (d : Describe) (old new : List Bool) → ((k : ℕ) → holds new k ≡ ((d.provides == k) || holds old k)) → AreProvided ds old → AreProvided (ds ++ d ∷ []) new
provided_more ds d old new adds known k = (
  λ held. ⊎_elim (λ (here : (d.provides == k) ≡ true). (d, Contains-push ds d, eqb-true d.provides k here))
      (λ (before : holds old k ≡ true). let is : IsProvided ds k = (known k).0 before in (is.0, Contains-append_left ds (d ∷ []) is.0 is.1, is.2))
      (or_cases (d.provides == k) (holds old k) (sym (adds k) ∙ held)),
  λ (e, there, is). adds k ∙ ⊎_elim (λ (before : Contains ds e). or_right (d.provides == k) (holds old k) ((known k).1 (e, before, is)))
      (λ (same : d ≡ e). or_left (d.provides == k) (holds old k) (eq-eqb d.provides k (ap (λ x. x.provides) same ∙ is)))
      (Contains-push_cases ds d e there),
)

pub provided_below : (ds : List Describe) (marks : List Bool) (n : ℕ) → length marks ≡ n → AreProvided ds marks → (k : ℕ) → IsProvided ds k → k < n
provided_below ds marks n size known k is = ⊎_elim (λ (less : k < n). less) (λ (more : n ≤ k). absurd (false≢true (sym (get_or_past marks k false (omega arith)) ∙ (known k).1 is))) (cases_lt k n)

-- kinds that are provided twice
pub doubled_none : (marks : List Bool) → ((k : ℕ) → holds marks k ≡ false) → AreDoubled [] marks
doubled_none marks empty k = (λ held. absurd (false≢true (sym (empty k) ∙ held)), λ (i, j, d, e, less, at, other, is, also). absurd (none-some d at))

doubled_left : (ds : List Describe) (d : Describe) (k : ℕ) → IsDoubled ds k → IsDoubled (ds ++ d ∷ []) k
doubled_left ds d k (i, j, x, y, less, at, other, is, also) = (i, j, x, y, less, get_left ds (d ∷ []) i x at, get_left ds (d ∷ []) j y other, is, also)

doubled_cases : (ds : List Describe) (d : Describe) (k : ℕ) → IsDoubled (ds ++ d ∷ []) k → IsDoubled ds k ⊎ (IsProvided ds k × (d.provides ≡ k))
doubled_cases ds d k (i, j, x, y, less, at, other, is, also) =
    ⊎_elim
    (λ (left : slice_get ds i ≡ Some x). ⊎_elim
    (λ (both : slice_get ds j ≡ Some y). inl (i, j, x, y, less, left, both, is, also))
    (λ (last : (j ≡ length ds) × (d ≡ y)). inr ((x, contains_from_get ds i x left, is), ap (λ e. e.provides) last.1 ∙ also))
    (get_push_cases ds d j y other))
    (λ (last : (i ≡ length ds) × (d ≡ x)). absurd (⊎_elim (λ (before : slice_get ds j ≡ Some y). omega (arith, last.0, slice_get_within ds j y before)) (λ (also_last : (j ≡ length ds) × (d ≡ y)). omega (arith, last.0, also_last.0)) (get_push_cases ds d j y other)))
    (get_push_cases ds d i x at)

-- the kind was provided before
pub doubled_more : (ds : List Describe) (d : Describe) (provided old new : List Bool) → AreProvided ds provided → holds provided d.provides ≡ true → ((k : ℕ) → holds new k ≡ ((d.provides == k) || holds old k)) → AreDoubled ds old → AreDoubled (ds ++ d ∷ []) new
doubled_more ds d provided old new are held adds known k = (
  λ now. ⊎_elim (λ (here : (d.provides == k) ≡ true). twice (eqb-true d.provides k here))
      (λ (before : holds old k ≡ true). doubled_left ds d k ((known k).0 before))
      (or_cases (d.provides == k) (holds old k) (sym (adds k) ∙ now)),
  λ is. adds k ∙ ⊎_elim (λ (before : IsDoubled ds k). or_right (d.provides == k) (holds old k) ((known k).1 before))
      (λ (both : IsProvided ds k × (d.provides ≡ k)). or_left (d.provides == k) (holds old k) (eq-eqb d.provides k both.1))
      (doubled_cases ds d k is),
)
  where
    twice : d.provides ≡ k → IsDoubled (ds ++ d ∷ []) k
    twice same =
        let before : IsProvided ds d.provides = (are d.provides).0 held in
        let at : (i : ℕ) × (slice_get ds i ≡ Some before.0) = get_from_contains ds before.0 before.1 in
        (at.0, length ds, before.0, d, slice_get_within ds at.0 before.0 at.1, get_left ds (d ∷ []) at.0 before.0 at.1, get_push ds d, before.2 ∙ same, same)

-- or not
pub doubled_same : (ds : List Describe) (d : Describe) (provided marks : List Bool) → AreProvided ds provided → holds provided d.provides ≡ false → AreDoubled ds marks → AreDoubled (ds ++ d ∷ []) marks
doubled_same ds d provided marks are fresh known k = (
  λ held. doubled_left ds d k ((known k).0 held),
  λ is. ⊎_elim (λ (before : IsDoubled ds k). (known k).1 before)
      (λ (both : IsProvided ds k × (d.provides ≡ k)). absurd (false≢true (sym fresh ∙ ap (λ n. holds provided n) both.1 ∙ (are k).1 both.0)))
      (doubled_cases ds d k is),
)

-- kinds that are required and not provided
module _ (kinds : List Describe) (provided : List Bool) (are : AreProvided kinds provided) where
  pub missing_none : (marks : List Bool) → ((k : ℕ) → holds marks k ≡ false) → AreMissing kinds [] marks
  missing_none marks empty k = (λ held. absurd (false≢true (sym (empty k) ∙ held)), λ is. absurd (none_there is.0 is.1))

  pub missing_more : (ds : List Describe) (d : Describe) (old new : List Bool) → ((k : ℕ) → holds new k ≡ ((has_kind k d.requires_ && not (holds provided k)) || holds old k)) → AreMissing kinds ds old → AreMissing kinds (ds ++ d ∷ []) new
  missing_more ds d old new adds known k = (
    λ held. ⊎_elim
        (λ (here : (has_kind k d.requires_ && not (holds provided k)) ≡ true).
        let parts = and_parts (has_kind k d.requires_) (not (holds provided k)) here in
        (d, Contains-push ds d, has_there k d.requires_ parts.0, λ is. false≢true (sym (not-true (holds provided k) parts.1) ∙ (are k).1 is)))
        (λ (before : holds old k ≡ true). let is = (known k).0 before in (is.0, Contains-append_left ds (d ∷ []) is.0 is.1, is.2, is.3))
        (or_cases (has_kind k d.requires_ && not (holds provided k)) (holds old k) (sym (adds k) ∙ held)),
    λ (e, there, needs, lacks). adds k ∙ ⊎_elim
        (λ (before : Contains ds e). or_right (has_kind k d.requires_ && not (holds provided k)) (holds old k) ((known k).1 (e, before, needs, lacks)))
        (λ (same : d ≡ e). or_left (has_kind k d.requires_ && not (holds provided k)) (holds old k) (and_from (has_kind k d.requires_) (not (holds provided k)) (there_has k d.requires_ (subst (λ (x : Describe). Contains x.requires_ k) (sym same) needs)) (not_from_false (holds provided k) (false_from_ne_true (holds provided k) (λ held. lacks ((are k).0 held))))))
        (Contains-push_cases ds d e there),
  )

-- kinds that require themselves
module _ (kinds : List Describe) where
  pub cyclic_none : (marks : List Bool) → ((k : ℕ) → holds marks k ≡ false) → AreCyclic kinds [] marks
  cyclic_none marks empty k = (λ held. absurd (false≢true (sym (empty k) ∙ held)), λ is. absurd (none_there is.0 is.1))

  pub cyclic_more : (ds : List Describe) (d : Describe) (old new : List Bool) → Requires kinds d.provides d.provides → ((k : ℕ) → holds new k ≡ ((d.provides == k) || holds old k)) → AreCyclic kinds ds old → AreCyclic kinds (ds ++ d ∷ []) new
  cyclic_more ds d old new cycle adds known k = (
    λ held. ⊎_elim (λ (here : (d.provides == k) ≡ true). let same : d.provides ≡ k = eqb-true d.provides k here in (d, Contains-push ds d, same, subst (λ (n : ℕ). Requires kinds n n) same cycle))
        (λ (before : holds old k ≡ true). let is = (known k).0 before in (is.0, Contains-append_left ds (d ∷ []) is.0 is.1, is.2, is.3))
        (or_cases (d.provides == k) (holds old k) (sym (adds k) ∙ held)),
    λ (e, there, is, again). adds k ∙ ⊎_elim (λ (before : Contains ds e). or_right (d.provides == k) (holds old k) ((known k).1 (e, before, is, again)))
        (λ (same : d ≡ e). or_left (d.provides == k) (holds old k) (eq-eqb d.provides k (ap (λ x. x.provides) same ∙ is)))
        (Contains-push_cases ds d e there),
  )

  pub cyclic_same : (ds : List Describe) (d : Describe) (marks : List Bool) → (Requires kinds d.provides d.provides → ⊥) → AreCyclic kinds ds marks → AreCyclic kinds (ds ++ d ∷ []) marks
  cyclic_same ds d marks none known k = (
    λ held. let is = (known k).0 held in (is.0, Contains-append_left ds (d ∷ []) is.0 is.1, is.2, is.3),
    λ (e, there, is, again). ⊎_elim (λ (before : Contains ds e). (known k).1 (e, before, is, again))
        (λ (same : d ≡ e). absurd (none (subst (λ (n : ℕ). Requires kinds n n) (sym (ap (λ x. x.provides) same ∙ is)) again)))
        (Contains-push_cases ds d e there),
  )

  pub cyclic_all : (marks : List Bool) → AreCyclic kinds kinds marks → (k : ℕ) → (holds marks k ≡ true) ↔ IsCyclic kinds k
  cyclic_all marks known k = (
    λ held. ((known k).0 held).3,
    λ cycle. let is : IsProvided kinds k = requires_provided kinds cycle in (known k).1 (is.0, is.1, is.2, cycle),
  )

-- the sets of the kinds so far
pub sets_more : (kinds : List Describe) (sets : List (List Bool)) (row : List Bool) (number : ℕ) → length sets ≡ number → ((k : ℕ) → (holds row k ≡ true) ↔ Requires kinds number k) → ((k j : ℕ) → k < number → (holds (slice_index_or sets k []) j ≡ true) ↔ Requires kinds k j) → (k j : ℕ) → k < number + 1 → (holds (slice_index_or (sets ++ row ∷ []) k []) j ≡ true) ↔ Requires kinds k j
sets_more kinds sets row number counted here known k j within =
    ⊎_elim
    (λ (less : k < number). subst (λ (set : List Bool). (holds set j ≡ true) ↔ Requires kinds k j) (sym (get_or_append_left sets (row ∷ []) [] k (omega arith))) (known k j less))
    (λ (last : number ≤ k).
    let same : number ≡ k = omega arith in
    subst (λ (set : List Bool). (holds set j ≡ true) ↔ Requires kinds k j) (sym (get_or_push sets row [] k (counted ∙ same))) (subst (λ (n : ℕ). (holds row j ≡ true) ↔ Requires kinds n j) same (here j)))
    (cases_lt k number)

pub row_at : (sets : List (List Bool)) (n k : ℕ) (row : List Bool) → n ≡ k → n < length sets → row ≡ get_or sets n row → row ≡ slice_index_or sets k []
row_at sets n k row same within is = get_or_read sets n row within is [] ∙ ap (λ (m : ℕ). slice_index_or sets m []) same

-- the least kind of a set, or none, as a fault of the list
module _ (IsFaulty : List Describe → ℕ → Type 0) (list kinds : List Describe) (same : list ≡ kinds) (marks : List Bool) (are : (k : ℕ) → (holds marks k ≡ true) ↔ IsFaulty list k) (o : Option ℕ) (least : IsLeastOf (λ k. holds marks k ≡ true) o) where
  are_here : (k : ℕ) → (holds marks k ≡ true) ↔ IsFaulty kinds k
  are_here k = subst (λ (ds : List Describe). (holds marks k ≡ true) ↔ IsFaulty ds k) same (are k)

  pub fault_least : (k : ℕ) → o ≡ Some k → IsLeastWith (IsFaulty kinds) k
  fault_least k is =
      let found : IsLeastOf (λ j. holds marks j ≡ true) (Some k) = subst (λ (p : Option ℕ). IsLeastOf (λ j. holds marks j ≡ true) p) is least in
      ((are_here k).0 found.0, λ j faulty. found.1 j ((are_here j).1 faulty))

  pub fault_none : o ≡ None → NoneWith (IsFaulty kinds)
  fault_none is k faulty =
      let none : IsLeastOf (λ j. holds marks j ≡ true) None = subst (λ (p : Option ℕ). IsLeastOf (λ j. holds marks j ≡ true) p) is least in
      none k ((are_here k).1 faulty)
