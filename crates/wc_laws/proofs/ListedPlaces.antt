-- Which places are listed where a list's elements pass a test, and how many of a path's steps are there.
use Rattle.std.proofs.Common.{ℕ, zero, suc, ◌≡◌, ◌==◌, ◌+◌, ◌<◌, ◌||◌, Bool, true, false, if◌then◌else◌, List, [], ◌∷◌, Some, refl, sym, ap, ap₂, subst, ◌∙◌, arith}
use Rattle.std.specs.List.{AllZip, slice_get}
use Rattle.std.proofs.lemmas.Bool.Decides.{nat_tests}
use Rattle.std.proofs.lemmas.Option.{none-some, same_Some}
use Rattle.wc_model.specs.Flow.Bounds.{Counted, nothing, counts, passes as passes_by}
use Rattle.wc_model.specs.Flow.Places.{is_listed, places_from, places_of}
use Rattle.wc_model.specs.Flow.SystemWalks.{passes}

pub test_same : (m n : ℕ) → m ≡ n → (m == n) ≡ true
test_same m n is = grind (arith, nat_tests)

test_apart : (m n : ℕ) → (m ≡ n → ⊥) → (m == n) ≡ false
test_apart m n is = grind (arith, nat_tests)

module _ {X : Type 0} (test : ℕ → X → Bool) where
  listed_later : (xs : List X) (first n : ℕ) → n < first → is_listed n (places_from first test xs) ≡ false
  listed_later [] first n less = refl
  listed_later (x ∷ xs) first n less = by (test first x) (listed_later xs (first + 1) n (omega arith))
    where
      by : (b : Bool) → is_listed n (places_from (first + 1) test xs) ≡ false → is_listed n (if b then first ∷ places_from (first + 1) test xs else places_from (first + 1) test xs) ≡ false
      by true rest = ap (λ c. c || is_listed n (places_from (first + 1) test xs)) (test_apart n first (λ same. absurd (omega arith))) ∙ rest
      by false rest = rest

  listed_from : (xs : List X) (first i n : ℕ) (x : X) → slice_get xs i ≡ Some x → first + i ≡ n → is_listed n (places_from first test xs) ≡ test n x
  listed_from [] first i n x at is = absurd (none-some x at)
  listed_from (y ∷ xs) first zero n x at is = by (test first y) refl
    where
      here : first ≡ n
      here = omega (arith, is)

      value : test first y ≡ test n x
      value = ap₂ test here (same_Some y x at)

      by : (b : Bool) → test first y ≡ b → is_listed n (if b then first ∷ places_from (first + 1) test xs else places_from (first + 1) test xs) ≡ test n x
      by true yes' = ap (λ c. c || is_listed n (places_from (first + 1) test xs)) (test_same n first (sym here)) ∙ sym yes' ∙ value
      by false no' = listed_later xs (first + 1) n (omega (arith, here)) ∙ sym no' ∙ value
  listed_from (y ∷ xs) first (suc i) n x at is = by (test first y) (listed_from xs (first + 1) i n x at (omega (arith, is)))
    where
      by : (b : Bool) → is_listed n (places_from (first + 1) test xs) ≡ test n x → is_listed n (if b then first ∷ places_from (first + 1) test xs else places_from (first + 1) test xs) ≡ test n x
      by true rest = ap (λ c. c || is_listed n (places_from (first + 1) test xs)) (test_apart n first (λ same. absurd (omega (arith, is)))) ∙ rest
      by false rest = rest

  -- a place is listed where its element passes
  pub listed_is : (xs : List X) (i : ℕ) (x : X) → slice_get xs i ≡ Some x → is_listed i (places_of test xs) ≡ test i x
  listed_is xs i x at = listed_from xs 0 i i x at (omega arith)

-- Of steps that stand at places, those at listed ones are counted.
module _ {S : Type 0} (At : ℕ → S → Type 0) (listed : List ℕ) (Holds : S → Type 0) (says : (i : ℕ) (s : S) → At i s → is_listed i listed ≡ true → Holds s)
    (only : (i : ℕ) (s : S) → At i s → is_listed i listed ≡ false → Holds s → ⊥) where
  one_more : (i : ℕ) (s : S) (path : List S) (n : ℕ) → At i s → (b : Bool) → is_listed i listed ≡ b → Counted Holds path n → Counted Holds (s ∷ path) ((if b then 1 else 0) + n)
  one_more i s path n at true is rest = let same : suc n ≡ 1 + n = omega arith in subst (Counted Holds (s ∷ path)) same (counts (says i s at is) rest)
  one_more i s path n at false is rest = let same : n ≡ 0 + n = omega arith in subst (Counted Holds (s ∷ path)) same (passes_by (only i s at is) rest)

  pub passes_counted : (places : List ℕ) (path : List S) → AllZip At places path → Counted Holds path (passes listed places)
  passes_counted [] [] stand = nothing
  passes_counted [] (s ∷ path) stand = absurd stand
  passes_counted (i ∷ places) [] stand = absurd stand
  passes_counted (i ∷ places) (s ∷ path) stand = one_more i s path (passes listed places) stand.0 (is_listed i listed) refl (passes_counted places path stand.1)
