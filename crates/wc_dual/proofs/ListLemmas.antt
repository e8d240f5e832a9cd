-- Places that stand once in a list, and factors of nodes that are named once.
use Rattle.std.proofs.Common.{◌≡◌, ℕ, zero, suc, ◌==◌, ◌+◌, ◌||◌, ℤ, pos, ◌+ℤ◌, List, [], ◌∷◌, map, take, slice_get, Some, Bool, true, false, if◌then◌else◌, refl, sym, ap, ap₂, subst, ◌∙◌, arith}
use Rattle.std.proofs.lemmas.Bool.{or_parts}
use Rattle.std.proofs.lemmas.Bool.Decides.{nat_tests}
use Rattle.std.proofs.lemmas.Int.{ints}
use Rattle.wc_base.specs.Sums.{sum_placed, chosen}
use Rattle.wc_model.specs.Flow.Certificates.{factor_of}
use Rattle.wc_model.specs.Flow.Places.{IsOnce, is_listed}
use Rattle.wc_dual.proofs.DualityLemmas.{chosen_apart, same_number, turned}

same_test : (a b : ℕ) → a ≡ b → (a == b) ≡ true
same_test a b is = grind (arith, nat_tests)

-- a test that is no longer open
or_second : (a b : Bool) → b ≡ true → (a || b) ≡ true
or_second true b is = refl
or_second false b is = is

pub listed_in : (ns : List ℕ) (m n : ℕ) → slice_get ns m ≡ Some n → is_listed n ns ≡ true
listed_in [] m n at = cc
listed_in (k ∷ ns) zero n at = let is : k ≡ n = cc in ap (λ b. b || is_listed n ns) (same_test n k (sym is))
listed_in (k ∷ ns) (suc m) n at = or_second (n == k) (is_listed n ns) (listed_in ns m n at)

-- what isn't listed differs from what is
pub others : (a b : ℕ) (ns : List ℕ) → is_listed a ns ≡ false → is_listed b ns ≡ true → (a == b) ≡ false
others a b ns none there = by (a == b) refl
  where
    by : (c : Bool) → (a == b) ≡ c → c ≡ false
    by true is = absurd (let clash : false ≡ true = sym none ∙ ap (λ n. is_listed n ns) (same_number b a is) ∙ there in cc)
    by false is = refl

pub none_before : (ns : List ℕ) (m n : ℕ) → IsOnce ns → slice_get ns m ≡ Some n → is_listed n (take m ns) ≡ false
none_before [] m n once at = cc
none_before (k ∷ ns) zero n once at = refl
none_before (k ∷ ns) (suc m) n once at =
    ap₂ (λ a b. a || b) (turned k n ∙ others k n ns once.0 (listed_in ns m n at)) (none_before ns m n once.1 at)

unlisted_take : (n m : ℕ) (ns : List ℕ) → is_listed n ns ≡ false → is_listed n (take m ns) ≡ false
unlisted_take n zero ns none = refl
unlisted_take n (suc m) [] none = refl
unlisted_take n (suc m) (k ∷ ns) none =
    let parts : ((n == k) ≡ false) × (is_listed n ns ≡ false) = or_parts (n == k) (is_listed n ns) none in
    ap₂ (λ a b. a || b) parts.0 (unlisted_take n m ns parts.1)

pub once_take : (m : ℕ) (ns : List ℕ) → IsOnce ns → IsOnce (take m ns)
once_take zero ns once = tt
once_take (suc m) [] once = tt
once_take (suc m) (k ∷ ns) once = (unlisted_take k m ns once.0, once_take m ns once.1)

-- an amount for each place, summed
pub listed_sum : (a : ℤ) (i : ℕ) (ns : List ℕ) → IsOnce ns → sum_placed (λ _ n. chosen (n == i) a) ns ≡ chosen (is_listed i ns) a
listed_sum a i [] once = refl
listed_sum a i (n ∷ ns) once = omega (
  arith,
  ints,
  listed_sum a i ns once.1,
  ap (λ b. chosen b a) (turned i n),
  chosen_apart (i == n) (is_listed i ns) a (λ is. subst (λ k. is_listed k ns ≡ false) (sym (same_number n i is)) once.0),
)

-- The factor of a node in a limit that names each node once.
abbrev names : List (ℕ × ℤ) → List ℕ
names fs = map (λ f. f.0) fs

pub named_in : (fs : List (ℕ × ℤ)) (m : ℕ) (f : ℕ × ℤ) → slice_get fs m ≡ Some f → is_listed f.0 (names fs) ≡ true
named_in [] m f at = cc
named_in (g ∷ fs) zero f at = let is : g ≡ f = cc in ap (λ b. b || is_listed f.0 (names fs)) (same_test f.0 g.0 (ap (λ h. h.0) (sym is)))
named_in (g ∷ fs) (suc m) f at = or_second (f.0 == g.0) (is_listed f.0 (names fs)) (named_in fs m f at)

pub factor_is : (fs : List (ℕ × ℤ)) (m : ℕ) (f : ℕ × ℤ) → IsOnce (names fs) → slice_get fs m ≡ Some f → factor_of f.0 fs ≡ f.1
factor_is [] m f once at = cc
factor_is (g ∷ fs) zero f once at =
    let is : g ≡ f = cc in
    ap (λ b. if b then g.1 else factor_of f.0 fs) (same_test g.0 f.0 (ap (λ h. h.0) is)) ∙ ap (λ h. h.1) is
factor_is (g ∷ fs) (suc m) f once at =
    ap (λ b. if b then g.1 else factor_of f.0 fs) (others g.0 f.0 (names fs) once.0 (named_in fs m f at)) ∙ factor_is fs m f once.1 at

pub factor_before : (fs : List (ℕ × ℤ)) (m : ℕ) (f : ℕ × ℤ) → IsOnce (names fs) → slice_get fs m ≡ Some f → factor_of f.0 (take m fs) ≡ pos 0
factor_before [] m f once at = cc
factor_before (g ∷ fs) zero f once at = refl
factor_before (g ∷ fs) (suc m) f once at =
    ap (λ b. if b then g.1 else factor_of f.0 (take m fs)) (others g.0 f.0 (names fs) once.0 (named_in fs m f at)) ∙ factor_before fs m f once.1 at

pub factor_more : (p : ℕ) (fs : List (ℕ × ℤ)) (m : ℕ) (f : ℕ × ℤ) → IsOnce (names fs) → slice_get fs m ≡ Some f
    → factor_of p (take (m + 1) fs) ≡ factor_of p (take m fs) +ℤ chosen (f.0 == p) f.1
factor_more p fs m f once at = ap (λ n. factor_of p (take n fs)) (let next : m + 1 ≡ suc m = omega arith in next) ∙ from fs m once at
  where
    first : (b : Bool) (z : ℤ) → (if b then z else pos 0) ≡ pos 0 +ℤ chosen b z
    first true z = omega (arith, ints)
    first false z = refl

    by : (b c : Bool) (u v w z : ℤ) → (b ≡ true → c ≡ false) → v ≡ w +ℤ chosen c z → (if b then u else v) ≡ (if b then u else w) +ℤ chosen c z
    by true c u v w z apart same = omega (arith, ints, ap (λ d. chosen d z) (apart refl))
    by false c u v w z apart same = same

    from : (gs : List (ℕ × ℤ)) (n : ℕ) → IsOnce (names gs) → slice_get gs n ≡ Some f → factor_of p (take (suc n) gs) ≡ factor_of p (take n gs) +ℤ chosen (f.0 == p) f.1
    from [] n once' at' = cc
    from (g ∷ gs) zero once' at' = let is : g ≡ f = cc in first (g.0 == p) g.1 ∙ ap (λ h. pos 0 +ℤ chosen (h.0 == p) h.1) is
    from (g ∷ gs) (suc n) once' at' = by (g.0 == p) (f.0 == p) g.1 (factor_of p (take (suc n) gs)) (factor_of p (take n gs)) f.1
        (λ is. subst (λ q. (f.0 == q) ≡ false) (same_number p g.0 is) (turned g.0 f.0 ∙ others g.0 f.0 (names gs) once'.0 (named_in gs n f at')))
        (from gs n once'.1 at')
