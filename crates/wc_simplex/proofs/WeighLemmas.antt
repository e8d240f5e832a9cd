-- Weighted sums of the entries of rows that are put together.
use Rattle.std.proofs.Common.{◌≡◌, ℕ, zero, suc, ◌+◌, ◌-◌, ◌<◌, ◌≤◌, ◌==◌, ℤ, pos, negsuc, ◌+ℤ◌, ◌-ℤ◌, ◌*ℤ◌, neg_ℤ, ◌≤ℤ◌, Bool, true, false, List, [], ◌∷◌, ◌++◌, map, get_or, replicate, length, inl, inr, ◌⊎◌, refl, sym, ap, ap₂, subst, ◌∙◌, arith}
use Rattle.std.specs.List.{range_with_len}
use Rattle.std.proofs.Math.IntN.{*ℤ-zero, zero-*ℤ}
use Rattle.std.proofs.lemmas.Bool.{cases_eq, eq-eqb, ne_eqb}
use Rattle.std.proofs.lemmas.Bool.Decides.{nat_tests}
use Rattle.std.proofs.lemmas.Int.{ints}
use Rattle.wc_base.specs.Sums.{chosen}
use Rattle.wc_base.proofs.Products.{assoc, spread, spread_left, times_one}
use Rattle.wc_model.specs.Flow.RowMachine.{entry}
use Rattle.wc_model.specs.Flow.Tableaus.{one_if, unit_row}
use Rattle.wc_simplex.specs.Solutions.{weighs}

pub weighs_append : (c : ℕ → ℤ) (k : ℕ) (xs ys : List ℤ) → weighs c k (xs ++ ys) ≡ weighs c k xs +ℤ weighs c (k + length xs) ys
weighs_append c k [] ys =
    let none : k + 0 ≡ k = omega arith in
    sym (zero_add (weighs c (k + 0) ys) ∙ ap (λ n. weighs c n ys) none)
  where
    zero_add : (z : ℤ) → pos 0 +ℤ z ≡ z
    zero_add z = omega (arith, ints)
weighs_append c k (x ∷ xs) ys =
    let more : suc k + length xs ≡ k + suc (length xs) = omega arith in
    omega (arith, ints, weighs_append c (suc k) xs ys, ap (λ n. weighs c n ys) more)

pub weighs_zeros : (c : ℕ → ℤ) (k n : ℕ) → weighs c k (replicate n (pos 0)) ≡ pos 0
weighs_zeros c k zero = refl
weighs_zeros c k (suc n) = omega (arith, ints, *ℤ-zero (c k), weighs_zeros c (suc k) n)

-- the weights are added
pub weighs_add : (a b : ℕ → ℤ) (k : ℕ) (row : List ℤ) → weighs (λ j. a j +ℤ b j) k row ≡ weighs a k row +ℤ weighs b k row
weighs_add a b k [] = refl
weighs_add a b k (x ∷ xs) = omega (arith, ints, spread (a k) (b k) x, weighs_add a b (suc k) xs)

pub weighs_scale : (g : ℤ) (b : ℕ → ℤ) (k : ℕ) (row : List ℤ) → weighs (λ j. g *ℤ b j) k row ≡ g *ℤ weighs b k row
weighs_scale g b k [] = sym (*ℤ-zero g)
weighs_scale g b k (x ∷ xs) = omega (arith, ints, assoc g (b k) x, weighs_scale g b (suc k) xs, spread_left g (b k *ℤ x) (weighs b (suc k) xs))

pub weighs_same : (a b : ℕ → ℤ) (k : ℕ) (row : List ℤ) → ((j : ℕ) → j < length row → a (k + j) ≡ b (k + j)) → weighs a k row ≡ weighs b k row
weighs_same a b k [] same = refl
weighs_same a b k (x ∷ xs) same =
    let here : k + 0 ≡ k = omega arith in
    ap₂ (λ (m n : ℤ). m *ℤ x +ℤ n) (subst (λ (n : ℕ). a n ≡ b n) here (same 0 (omega arith)))
    (weighs_same a b (suc k) xs (λ j within. let more : k + suc j ≡ suc k + j = omega arith in subst (λ (n : ℕ). a n ≡ b n) more (same (suc j) (omega (arith, within)))))

-- weights on places that are all beyond
weighs_off : (m : ℕ) (z : ℤ) (k : ℕ) (row : List ℤ) → m < k → weighs (λ j. chosen (m == j) z) k row ≡ pos 0
weighs_off m z k [] few = refl
weighs_off m z k (x ∷ xs) few =
    let apart : (m == k) ≡ false = ne_eqb m k (omega (arith, few)) in
    omega (arith, ints, ap (λ b. chosen b z *ℤ x) apart, zero-*ℤ x, weighs_off m z (suc k) xs (omega (arith, few)))

-- a weight at one place
pub weighs_unit : (m : ℕ) (z : ℤ) (k : ℕ) (row : List ℤ) → weighs (λ j. chosen (k + m == j) z) k row ≡ z *ℤ entry row m
weighs_unit m z k [] = sym (*ℤ-zero z)
weighs_unit zero z k (x ∷ xs) =
    let here : (k + 0 == k) ≡ true = eq-eqb (k + 0) k (omega arith) in
    omega (arith, ints, ap (λ b. chosen b z *ℤ x) here, weighs_off (k + 0) z (suc k) xs (omega arith))
weighs_unit (suc m) z k (x ∷ xs) =
    let apart : (k + suc m == k) ≡ false = ne_eqb (k + suc m) k (omega arith) in
    let more : k + suc m ≡ suc k + m = omega arith in
    omega (arith, ints, ap (λ b. chosen b z *ℤ x) apart, zero-*ℤ x, ap (λ n. weighs (λ j. chosen (n == j) z) (suc k) xs) more, weighs_unit m z (suc k) xs)

-- a row with 1 at one place
range_unit : (c : ℕ → ℤ) (k first n own : ℕ) → (own < first ⊎ first + n ≤ own) → weighs c k (map (λ i. one_if (i == own)) (range_with_len first n)) ≡ pos 0
range_unit c k first zero own out = refl
range_unit c k first (suc n) own out =
    let apart : (first == own) ≡ false = ne_eqb first own (λ same. by same out) in
    omega (arith, ints, ap (λ b. c k *ℤ one_if b) apart, *ℤ-zero (c k), range_unit c (suc k) (first + 1) n own (further out))
  where
    by : first ≡ own → (own < first ⊎ first + suc n ≤ own) → ⊥
    by same (inl few) = omega (arith, same, few)
    by same (inr far) = omega (arith, same, far)

    further : (own < first ⊎ first + suc n ≤ own) → (own < first + 1 ⊎ first + 1 + n ≤ own)
    further (inl few) = inl (omega (arith, few))
    further (inr far) = inr (omega (arith, far))

unit_in : (c : ℕ → ℤ) (k first n own : ℕ) → first ≤ own → own < first + n → weighs c k (map (λ i. one_if (i == own)) (range_with_len first n)) ≡ c (k + (own - first))
unit_in c k first zero own low high = absurd (omega (arith, low, high))
unit_in c k first (suc n) own low high = by (cases_eq first own) (λ a b. unit_in c (suc k) (first + 1) n own a b)
  where
    by : (first ≡ own) ⊎ (first ≡ own → ⊥) → (first + 1 ≤ own → own < first + 1 + n → weighs c (suc k) (map (λ i. one_if (i == own)) (range_with_len (first + 1) n)) ≡ c (suc k + (own - (first + 1))))
        → c k *ℤ one_if (first == own) +ℤ weighs c (suc k) (map (λ i. one_if (i == own)) (range_with_len (first + 1) n)) ≡ c (k + (own - first))
    by (inl same) go =
        let here : k + (own - first) ≡ k = omega (arith, same) in
        let one : (first == own) ≡ true = eq-eqb first own same in
        omega (arith, ints, ap (λ b. c k *ℤ one_if b) one, times_one (c k), range_unit c (suc k) (first + 1) n own (inl (omega (arith, same))), ap c here)
    by (inr apart) go =
        let more : suc k + (own - (first + 1)) ≡ k + (own - first) = omega (arith, low, apart) in
        let none : (first == own) ≡ false = ne_eqb first own apart in
        omega (arith, ints, ap (λ b. c k *ℤ one_if b) none, *ℤ-zero (c k), go (omega (arith, low, apart)) (omega (arith, high)), ap c more)

pub weighs_unit_row : (c : ℕ → ℤ) (k n own : ℕ) → own < n → weighs c k (unit_row n own) ≡ c (k + own)
weighs_unit_row c k n own within =
    let same : k + (own - 0) ≡ k + own = omega arith in
    unit_in c k 0 n own (omega arith) (omega (arith, within)) ∙ ap c same
