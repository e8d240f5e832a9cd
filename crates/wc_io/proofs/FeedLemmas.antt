-- Line feeds in a piece of a script.
use Rattle.std.proofs.Common.{◌≡◌, ℕ, zero, suc, ◌+◌, ◌<◌, ◌==◌, Bool, true, false, cond, List, [], ◌∷◌, ◌++◌, length, take, get_or, Option, Some, None, refl, ap, ◌∙◌, subst, arith}
use Rattle.std.proofs.lemmas.Bool.Decides.{nat_tests}
use Rattle.std.specs.List.{position_from}

abbrev pub NoFeed : List ℕ → Type 0
NoFeed [] = Unit {0}
NoFeed (b ∷ bs) = (b ≡ 10 → ⊥) × NoFeed bs

-- the first LF of these bytes is at that index
pub record IsFirstFeed (bytes : List ℕ) (i : ℕ) : Type 0 where
  pub within : i < length bytes
  pub here : get_or bytes i 0 ≡ 10
  pub before : NoFeed (take i bytes)

is_feed : (b : ℕ) → (b == 10) ≡ true → b ≡ 10
is_feed b is = grind (arith, nat_tests)

is_other : (b : ℕ) → (b == 10) ≡ false → b ≡ 10 → ⊥
is_other b is = grind (arith, nat_tests)

feed_later : (b : ℕ) (bytes : List ℕ) (m : ℕ) → (b == 10) ≡ false → IsFirstFeed bytes m → IsFirstFeed (b ∷ bytes) (suc m)
feed_later b bytes m other first =
    let more = first.within in record { within = omega arith; here = first.here; before = (is_other b other, first.before) }

feed_step : (test : Bool) (i b : ℕ) (bytes : List ℕ) (k : ℕ) (later : Option ℕ) → (b == 10) ≡ test
    → (later ≡ Some k → (m : ℕ) × (k ≡ (i + 1) + m) × IsFirstFeed bytes m)
    → cond test (Some i) later ≡ Some k → (m : ℕ) × (k ≡ i + m) × IsFirstFeed (b ∷ bytes) m
feed_step true i b bytes k later at rest is = let here : i ≡ k = cc in (zero, omega arith, record { within = omega arith; here = is_feed b at; before = tt })
feed_step false i b bytes k later at rest is = let (m, far, first) = rest is in (suc m, omega arith, feed_later b bytes m at first)

feed_from : (i : ℕ) (bytes : List ℕ) (k : ℕ) → position_from (λ b. b == 10) i bytes ≡ Some k → (m : ℕ) × (k ≡ i + m) × IsFirstFeed bytes m
feed_from i [] k is = absurd (cc)
feed_from i (b ∷ bytes) k is = feed_step (b == 10) i b bytes k _ refl (feed_from (i + 1) bytes k) is

pub first_feed : (bytes : List ℕ) (k : ℕ) → position_from (λ b. b == 10) 0 bytes ≡ Some k → IsFirstFeed bytes k
first_feed bytes k is = let (m, far, first) = feed_from 0 bytes k is in let e : m ≡ k = omega arith in subst (IsFirstFeed bytes) e first

no_feed_step : (test : Bool) (i b : ℕ) (bytes : List ℕ) (later : Option ℕ) → (b == 10) ≡ test → (later ≡ None → NoFeed bytes)
    → cond test (Some i) later ≡ None → NoFeed (b ∷ bytes)
no_feed_step true i b bytes later at rest is = absurd (cc)
no_feed_step false i b bytes later at rest is = (is_other b at, rest is)

no_feed_from : (i : ℕ) (bytes : List ℕ) → position_from (λ b. b == 10) i bytes ≡ None → NoFeed bytes
no_feed_from i [] is = tt
no_feed_from i (b ∷ bytes) is = no_feed_step (b == 10) i b bytes _ refl (no_feed_from (i + 1) bytes) is

pub no_feed : (bytes : List ℕ) → position_from (λ b. b == 10) 0 bytes ≡ None → NoFeed bytes
no_feed bytes is = no_feed_from 0 bytes is

pub NoFeed_append : (xs ys : List ℕ) → NoFeed xs → NoFeed ys → NoFeed (xs ++ ys)
NoFeed_append [] ys first rest = rest
NoFeed_append (x ∷ xs) ys first rest = (first.0, NoFeed_append xs ys first.1 rest)

feed_taken : (xs : List ℕ) (i : ℕ) → i < length xs → get_or xs i 0 ≡ 10 → take (i + 1) xs ≡ take i xs ++ 10 ∷ []
feed_taken [] i within here = absurd (omega arith)
feed_taken (x ∷ xs) zero within here = ap (λ b. b ∷ []) here
feed_taken (x ∷ xs) (suc i) within here =
    let e : suc i + 1 ≡ suc (i + 1) = omega arith in
    ap (λ n. take n (x ∷ xs)) e ∙ ap (λ ys. x ∷ ys) (feed_taken xs i (omega arith) here)

pub take_feed : (xs : List ℕ) (i : ℕ) → IsFirstFeed xs i → take (i + 1) xs ≡ take i xs ++ 10 ∷ []
take_feed xs i first = feed_taken xs i first.within first.here
