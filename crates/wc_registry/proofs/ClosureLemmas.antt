-- The closure of a kind by links is that by requirements, since each kind stands behind what it requires.
use Rattle.std.proofs.Common.{ℕ, zero, suc, ◌≡◌, ◌+◌, ◌<◌, ◌≤◌, ◌==◌, ◌||◌, Bool, true, inl, inr, ⊎_elim, List, [], ◌∷◌, Option, None, Some, length, take, refl, sym, ap, subst, ◌∙◌, arith}
use Rattle.std.specs.Prelude.{◌↔◌}
use Rattle.std.specs.List.{Contains, flat_map, list_any, slice_get}
use Rattle.std.proofs.lemmas.Bool.{and_from, and_parts, eq-eqb, eqb-true, false≢true, or_cases, or_left, or_right}
use Rattle.std.proofs.lemmas.List.{length_push, length-take}
use Rattle.std.proofs.lemmas.List.Elements.{All-contains, Contains-append_cases, Contains-append_left, Contains-append_right}
use Rattle.std.proofs.lemmas.Option.{none-some, slice_get_within}
use Rattle.wc_model.specs.declared.kinds.Describe.{Describe}
use Rattle.wc_model.specs.declared.kinds.Part.{Part}
use Rattle.wc_model.specs.declared.kinds.Part.TheVariants.{Steer, Loops, Limits, Cache, Cycles}
use Rattle.wc_model.specs.Workspace.Closures.{closure, order_of, placed_after, placed_next, next_available, reads_of, reads_within, requires_of}
use Rattle.wc_model.specs.Workspace.Registry.{IsInClosure, IsOrderOf, Requires, directly}
use Rattle.wc_model.proofs.Places.{get_from_contains}
use Rattle.wc_registry.specs.Inner.KindSets.{holds}
use Rattle.wc_registry.specs.Inner.Required.{has_part, reads_for, same_part}
use Rattle.wc_registry.specs.Sound.{IsSound}
use Rattle.wc_registry.proofs.KindLemmas.{any_at, any_from, cons_cases, first_step, later_there, none_there, reads_at, reads_from, requires_provided, requires_through}

flat_at : {X Y : Type 0} (f : X → List Y) (xs : List X) (y : Y) → Contains (flat_map f xs) y → (x : X) × Contains xs x × Contains (f x) y
flat_at f [] y there = absurd (none_there y there)
flat_at {X} {Y} f (x ∷ xs) y there =
    ⊎_elim (λ (here : Contains (f x) y). (x, first x xs, here))
    (λ (later : Contains (flat_map f xs) y).
    let found : (z : X) × Contains xs z × Contains (f z) y = flat_at f xs y later in
    (found.0, later_there x found.0 xs found.1, found.2))
    (Contains-append_cases (f x) (flat_map f xs) y there)
  where
    first : (x : X) (xs : List X) → Contains (x ∷ xs) x
    first x xs = (0, omega arith, refl)

flat_from : {X Y : Type 0} (f : X → List Y) (xs : List X) (x : X) (y : Y) → Contains xs x → Contains (f x) y → Contains (flat_map f xs) y
flat_from f [] x y there at = absurd (none_there x there)
flat_from {X} {Y} f (z ∷ xs) x y there at =
    ⊎_elim (λ (here : z ≡ x). Contains-append_left (f z) (flat_map f xs) y (subst (λ (w : X). Contains (f w) y) (sym here) at))
    (λ (later : Contains xs x). Contains-append_right (f z) (flat_map f xs) y (flat_from f xs x y later at))
    (cons_cases z xs x there)

module _ (kinds : List Describe) where
  through_first : (k j : ℕ) (part : Part) → Contains (requires_of kinds k) j → IsInClosure kinds j part → IsInClosure kinds k part
  through_first k j part there in_closure =
      ⊎_elim (λ (reads : Contains (reads_of kinds j) part). inr (j, directly there, reads))
      (λ (more : (i : ℕ) × Requires kinds j i × Contains (reads_of kinds i) part). inr (more.0, requires_through kinds (directly there) more.1, more.2))
      in_closure

  within_is : (n k : ℕ) (part : Part) → Contains (reads_within kinds n k) part → IsInClosure kinds k part
  within_is zero k part there = inl there
  within_is (suc n) k part there =
      ⊎_elim (λ (own : Contains (reads_of kinds k) part). inl own)
      (λ (others : Contains (flat_map (λ j. reads_within kinds n j) (requires_of kinds k)) part).
      let found : (j : ℕ) × Contains (requires_of kinds k) j × Contains (reads_within kinds n j) part = flat_at (λ j. reads_within kinds n j) (requires_of kinds k) part others in
      through_first k found.0 part found.1 (within_is n found.0 part found.2))
      (Contains-append_cases (reads_of kinds k) (flat_map (λ j. reads_within kinds n j) (requires_of kinds k)) part there)

  own_within : (n k : ℕ) (part : Part) → Contains (reads_of kinds k) part → Contains (reads_within kinds n k) part
  own_within zero k part there = there
  own_within (suc n) k part there = Contains-append_left (reads_of kinds k) (flat_map (λ j. reads_within kinds n j) (requires_of kinds k)) part there

  module _ (order : List ℕ) (ordered : IsOrderOf kinds order) where
    -- a requirement stands before the kind
    stands_before : (i k j : ℕ) → slice_get order i ≡ Some k → Contains (requires_of kinds k) j → (p : ℕ) × (p < i) × (slice_get order p ≡ Some j)
    stands_before i k j at there =
        let found : (p : ℕ) × (slice_get (take i order) p ≡ Some j) = get_from_contains (take i order) j (All-contains (Contains (take i order)) (requires_of kinds k) j (ordered.after i k at) there) in
        let less : found.0 < length (take i order) = slice_get_within (take i order) found.0 j found.1 in
        (found.0, omega (arith, length-take i order), front i order found.0 j found.1)
      where
        front : (n : ℕ) (xs : List ℕ) (p x : ℕ) → slice_get (take n xs) p ≡ Some x → slice_get xs p ≡ Some x
        front zero xs p x at = absurd (none-some x at)
        front (suc n) [] p x at = absurd (none-some x at)
        front (suc n) (y ∷ ys) zero x at = at
        front (suc n) (y ∷ ys) (suc p) x at = front n ys p x at

    is_within : (n i k j : ℕ) (part : Part) → i ≤ n → slice_get order i ≡ Some k → Requires kinds k j → Contains (reads_of kinds j) part → Contains (reads_within kinds n k) part
    is_within zero i k j part few at way reads =
        ⊎_elim (λ (there : Contains (requires_of kinds k) j). let before = stands_before i k j at there in absurd (omega (arith, before.1)))
        (λ (more : (m : ℕ) × Contains (requires_of kinds k) m × Requires kinds m j). let before = stands_before i k more.0 at more.1 in absurd (omega (arith, before.1)))
        (first_step kinds way)
    is_within (suc n) i k j part few at way reads =
        Contains-append_right (reads_of kinds k) (flat_map (λ m. reads_within kinds n m) (requires_of kinds k)) part
        (⊎_elim (λ (there : Contains (requires_of kinds k) j). flat_from (λ m. reads_within kinds n m) (requires_of kinds k) j part there (own_within n j part reads))
        (λ (more : (m : ℕ) × Contains (requires_of kinds k) m × Requires kinds m j).
        let before = stands_before i k more.0 at more.1 in
        flat_from (λ m. reads_within kinds n m) (requires_of kinds k) more.0 part more.1 (is_within n before.0 more.0 j part (omega (arith, before.1)) before.2 more.2 reads))
        (first_step kinds way))

    pub closure_is : length order ≤ length kinds → (k : ℕ) (part : Part) → IsInClosure kinds k part ↔ Contains (closure kinds k) part
    closure_is few k part = (
      λ in_closure. ⊎_elim (λ (own : Contains (reads_of kinds k) part). own_within (length kinds) k part own)
          (λ (more : (j : ℕ) × Requires kinds k j × Contains (reads_of kinds j) part).
          let placed : (i : ℕ) × (slice_get order i ≡ Some k) = get_from_contains order k ((ordered.exactly k).1 (requires_provided kinds more.1)) in
          is_within (length kinds) placed.0 k more.0 part (omega (arith, slice_get_within order placed.0 k placed.1)) placed.1 more.1 more.2)
          in_closure,
      λ there. within_is (length kinds) k part there,
    )

-- no more kinds are placed than there are steps
step_length : (placed : List ℕ) (next : Option ℕ) → length (placed_next placed next) ≤ length placed + 1
step_length placed None = omega arith
step_length placed (Some k) = omega (arith, length_push placed k)

placed_length : (kinds : List Describe) (n : ℕ) → length (placed_after kinds n) ≤ n
placed_length kinds zero = omega arith
placed_length kinds (suc n) = omega (arith, step_length (placed_after kinds n) (next_available kinds (placed_after kinds n)), placed_length kinds n)

pub order_length : (kinds : List Describe) → length (order_of kinds) ≤ length kinds
order_length kinds = placed_length kinds (length kinds)

-- the test for a part
part_is : (a b : Part) → same_part a b ≡ true → a ≡ b
part_is Steer Steer same = refl
part_is Loops Loops same = refl
part_is Limits Limits same = refl
part_is Cache Cache same = refl
part_is Cycles Cycles same = refl
part_is _ _ same = absurd (false≢true same)

same_is : (a : Part) → same_part a a ≡ true
same_is Steer = refl
same_is Loops = refl
same_is Limits = refl
same_is Cache = refl
same_is Cycles = refl

pub part_there : (part : Part) (parts : List Part) → has_part part parts ≡ true → Contains parts part
part_there part parts has =
    let found : (other : Part) × Contains parts other × (same_part other part ≡ true) = any_at (λ other. same_part other part) parts has in
    subst (λ (p : Part). Contains parts p) (part_is found.0 part found.2) found.1

pub there_part : (part : Part) (parts : List Part) → Contains parts part → has_part part parts ≡ true
there_part part parts there = any_from (λ other. same_part other part) parts part there (same_is part)

-- the descriptions that are looked at are those of the kind and of what it requires
module _ (kinds : List Describe) (sound : IsSound kinds) (k : ℕ) (required : List Bool) (are : (j : ℕ) → (holds required j ≡ true) ↔ Requires kinds k j) (part : Part) where
  reads_says : list_any (reads_for k required part) kinds ≡ true → IsInClosure kinds k part
  reads_says any =
      let found : (d : Describe) × Contains kinds d × (reads_for k required part d ≡ true) = any_at (reads_for k required part) kinds any in
      let d : Describe = found.0 in
      let parts = and_parts ((d.provides == k) || holds required d.provides) (has_part part d.reads) found.2 in
      let reads : Contains (reads_of kinds d.provides) part = subst (λ (ps : List Part). Contains ps part) (sym (reads_at kinds sound.single d found.1)) (part_there part d.reads parts.1) in
      ⊎_elim (λ (own : (d.provides == k) ≡ true). inl (subst (λ (n : ℕ). Contains (reads_of kinds n) part) (eqb-true d.provides k own) reads))
      (λ (other : holds required d.provides ≡ true). inr (d.provides, (are d.provides).0 other, reads))
      (or_cases (d.provides == k) (holds required d.provides) parts.0)

  said_reads : IsInClosure kinds k part → list_any (reads_for k required part) kinds ≡ true
  said_reads in_closure =
      ⊎_elim
      (λ (own : Contains (reads_of kinds k) part).
      let from = reads_from kinds k part own in
      any_from (reads_for k required part) kinds from.0 from.1 (and_from (((from.0).provides == k) || holds required (from.0).provides) (has_part part (from.0).reads) (or_left ((from.0).provides == k) (holds required (from.0).provides) (eq-eqb (from.0).provides k from.2)) (there_part part (from.0).reads from.3)))
      (λ (more : (j : ℕ) × Requires kinds k j × Contains (reads_of kinds j) part).
      let from = reads_from kinds more.0 part more.2 in
      any_from (reads_for k required part) kinds from.0 from.1 (and_from (((from.0).provides == k) || holds required (from.0).provides) (has_part part (from.0).reads) (or_right ((from.0).provides == k) (holds required (from.0).provides) (ap (λ n. holds required n) from.2 ∙ (are more.0).1 more.1)) (there_part part (from.0).reads from.3)))
      in_closure

  pub reads_is : (list_any (reads_for k required part) kinds ≡ true) ↔ IsInClosure kinds k part
  reads_is = (reads_says, said_reads)

pub answer_is : (kinds : List Describe) (sound : IsSound kinds) (order : List ℕ) → IsOrderOf kinds order → order ≡ order_of kinds → (k : ℕ) (required : List Bool) → ((j : ℕ) → (holds required j ≡ true) ↔ Requires kinds k j) → (part : Part) (answer : Bool) → answer ≡ list_any (reads_for k required part) kinds → ((answer ≡ true) ↔ IsInClosure kinds k part) × ((answer ≡ true) ↔ Contains (closure kinds k) part)
answer_is kinds sound order ordered listed k required are part answer is =
    let reads = reads_is kinds sound k required are part in
    let same = closure_is kinds order ordered (omega (arith, order_length kinds, ap length listed)) k part in
    ((λ says. reads.0 (sym is ∙ says), λ in_closure. is ∙ reads.1 in_closure), (λ says. same.0 (reads.0 (sym is ∙ says)), λ there. is ∙ reads.1 (same.1 there)))
