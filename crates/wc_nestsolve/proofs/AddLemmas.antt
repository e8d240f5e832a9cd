-- Walks are followed step by step, and added place by place.
use Rattle.std.proofs.Common.{◌≡◌, ℕ, zero, suc, ◌+◌, ◌-◌, ◌<◌, ◌≤◌, ◌^◌, ◌||◌, ◌++◌, ◌⊎◌, inl, inr, List, [], ◌∷◌, length, set, slice_index, Option, Some, None, Bool, true, false, if◌then◌else◌, refl, sym, ap, ap₂, ◌∙◌, arith}
use Rattle.std.proofs.lemmas.Bool.{cases_eq}
use Rattle.std.proofs.lemmas.List.{append-nil, get_or-set_same, get_or-set_other, length-set}
use Rattle.wc_model.specs.declared.flow_system.System.{System}
use Rattle.wc_model.specs.declared.graphs.Nest.{Nest}
use Rattle.wc_model.specs.Flow.Places.{IsOnce, is_listed}
use Rattle.wc_nestsolve.specs.declared.found.Found.{Found}
use Rattle.wc_nestsolve.specs.Inner.Adding.{AreRoomy, IsAdded, IsAdding, goes_on}
use Rattle.wc_nestsolve.specs.Inner.Tables.{found_at}
use Rattle.wc_nestsolve.specs.Inner.Trails.{begins_with, walk_from}
use Rattle.wc_nestsolve.proofs.WeightLemmas.{test_apart, test_same}

module _ (s : System) (nest : Nest) (best : List (Option Found)) where
  walk_done : (n : ℕ) → walk_from s nest best n None ≡ []
  walk_done zero = refl
  walk_done (suc n) = refl

  walk_stop : (n p : ℕ) → found_at best p ≡ None → walk_from s nest best n (Some p) ≡ []
  walk_stop zero p none = refl
  walk_stop (suc n) p none = ap (λ o. begins_with o (λ place. walk_from s nest best n (goes_on s nest place))) none

  walk_on : (n p : ℕ) (f : Found) → found_at best p ≡ Some f → walk_from s nest best (suc n) (Some p) ≡ f.place ∷ walk_from s nest best n (goes_on s nest f.place)
  walk_on n p f found = ap (λ o. begins_with o (λ place. walk_from s nest best n (goes_on s nest place))) found

  module _ (most i start at : ℕ) (walk : List ℕ) (old : walk ++ walk_from s nest best (most - i) (Some at) ≡ walk_from s nest best most (Some start)) where
    pub follow_stops : found_at best at ≡ None → walk ≡ walk_from s nest best most (Some start)
    follow_stops none = sym (append-nil walk) ∙ sym (ap (λ w. walk ++ w) (walk_stop (most - i) at none)) ∙ old

    pub follow_ends : most ≤ i → walk ≡ walk_from s nest best most (Some start)
    follow_ends all = let zero_left : most - i ≡ 0 = omega arith in sym (append-nil walk) ∙ sym (ap (λ n. walk ++ walk_from s nest best n (Some at)) zero_left) ∙ old

    module _ (f : Found) (less : i < most) (found : found_at best at ≡ Some f) where
      one_more : (walk ++ f.place ∷ []) ++ walk_from s nest best (most - (i + 1)) (goes_on s nest f.place) ≡ walk_from s nest best most (Some start)
      one_more =
          let left : most - i ≡ suc (most - (i + 1)) = omega arith in
          append_one walk f.place (walk_from s nest best (most - (i + 1)) (goes_on s nest f.place))
          ∙ sym (ap (λ n. walk ++ walk_from s nest best n (Some at)) left ∙ ap (λ w. walk ++ w) (walk_on (most - (i + 1)) at f found)) ∙ old
        where
          append_one : (xs : List ℕ) (x : ℕ) (ys : List ℕ) → (xs ++ x ∷ []) ++ ys ≡ xs ++ x ∷ ys
          append_one [] x ys = refl
          append_one (y ∷ xs) x ys = ap (λ zs. y ∷ zs) (append_one xs x ys)

      pub follow_on : (q : ℕ) → goes_on s nest f.place ≡ Some q → (walk ++ f.place ∷ []) ++ walk_from s nest best (most - (i + 1)) (Some q) ≡ walk_from s nest best most (Some start)
      follow_on q to = ap (λ o. (walk ++ f.place ∷ []) ++ walk_from s nest best (most - (i + 1)) o) (sym to) ∙ one_more

      pub follow_last : goes_on s nest f.place ≡ None → walk ++ f.place ∷ [] ≡ walk_from s nest best most (Some start)
      follow_last none = sym (append-nil (walk ++ f.place ∷ []))
          ∙ sym (ap (λ o. (walk ++ f.place ∷ []) ++ walk_from s nest best (most - (i + 1)) o) none ∙ ap (λ w. (walk ++ f.place ∷ []) ++ w) (walk_done (most - (i + 1)))) ∙ one_more

pub add_begins : (walk : List ℕ) (times : ℕ) (old : List ℕ) → IsOnce walk → IsAdding walk times old walk old
add_begins walk times old once = record { counted = refl; once = once; each = λ i. refl }

module _ (walk : List ℕ) (times : ℕ) (old rest new : List ℕ) (p : ℕ) (is : IsAdding walk times old (p ∷ rest) new) where
  pub add_fits : AreRoomy times old → p < length old → slice_index new p + times < 2 ^ 127
  add_fits room known = by (is_listed p walk) (sym (ap (λ b. slice_index new p + (if b || is_listed p rest then times else 0)) (test_same p p refl)) ∙ is.each p)
    where
      by : (b : Bool) → slice_index new p + times ≡ slice_index old p + (if b then times else 0) → slice_index new p + times < 2 ^ 127
      by true same = omega (arith, room p known)
      by false same = omega (arith, room p known)

  pub add_more : p < length old → IsAdding walk times old rest (set new p (slice_index new p + times))
  add_more known = record {
    counted = length-set new p (slice_index new p + times) ∙ is.counted;
    once = is.once.1;
    each = λ i. each_at i (cases_eq i p);
  }
    where
      each_at : (i : ℕ) → (i ≡ p) ⊎ (i ≡ p → ⊥) → slice_index (set new p (slice_index new p + times)) i + (if is_listed i rest then times else 0) ≡ slice_index old i + (if is_listed i walk then times else 0)
      each_at i (inl same) =
          let value : slice_index (set new p (slice_index new p + times)) i ≡ slice_index new p + times = ap (slice_index (set new p (slice_index new p + times))) same ∙ get_or-set_same new p (slice_index new p + times) 0 (omega (arith, is.counted)) in
          let none : is_listed i rest ≡ false = ap (λ n. is_listed n rest) same ∙ is.once.0 in
          let before : slice_index new p + times ≡ slice_index old i + (if is_listed i walk then times else 0) =
          sym (ap (λ b. slice_index new p + (if b || is_listed p rest then times else 0)) (test_same p p refl)) ∙ is.each p ∙ sym (ap (λ n. slice_index old n + (if is_listed n walk then times else 0)) same) in
          ap₂ (λ a b. a + (if b then times else 0)) value none ∙ drop_zero (slice_index new p + times) ∙ before
        where
          drop_zero : (n : ℕ) → n + 0 ≡ n
          drop_zero n = omega arith
      each_at i (inr apart) =
          ap (λ a. a + (if is_listed i rest then times else 0)) (get_or-set_other new p i (slice_index new p + times) 0 apart)
          ∙ sym (ap (λ b. slice_index new i + (if b || is_listed i rest then times else 0)) (test_apart i p apart)) ∙ is.each i

pub add_ends : (walk : List ℕ) (times : ℕ) (old new : List ℕ) → IsAdding walk times old [] new → IsAdded walk times old new
add_ends walk times old new is = record { counted = is.counted; each = λ i. let plain : slice_index new i + 0 ≡ slice_index new i = omega arith in sym plain ∙ is.each i }
