-- A pivot keeps every homogeneous linear equation of the rows, both ways.
use Rattle.std.proofs.Common.{◌≡◌, ℕ, zero, suc, ◌+◌, ◌<◌, ◌≤◌, ◌==◌, nat_le, ℤ, pos, negsuc, ◌+ℤ◌, ◌-ℤ◌, ◌*ℤ◌, neg_ℤ, Bool, true, false, if◌then◌else◌, List, [], ◌∷◌, map, get_or, length, Option, None, Some, option_and_then, option_map, refl, sym, ap, ap₂, subst, ◌∙◌, arith}
use Prim.Native.Nat.{◌∣◌}
use Rattle.std.specs.Int.RustNames.{int_div, int_rem, unsigned_abs}
use Rattle.std.specs.List.{AllByRecursion}
use Rattle.std.proofs.Math.IntN.{*ℤ-zero, zero-*ℤ, *ℤ_comm}
use Rattle.std.proofs.lemmas.Int.{ints, quot-rem}
use Rattle.std.proofs.lemmas.Nat.Gcd.{dvd_refl, dvd_trans, mod-eq-zero_of_dvd}
use Rattle.wc_base.proofs.Products.{assoc, exchange, one_times, only_zero, spread_left, spread_sub, times_one}
use Rattle.wc_model.specs.Flow.Exact.{gcd, lowest, mix, mix_row, row_gcd}
use Rattle.wc_model.specs.Flow.RowMachine.{entry, is_positive, is_zero, reduced, reduced_others}
use Rattle.wc_simplex.specs.Inner.Reached.{HaveWidth, IsLinear}
use Rattle.wc_simplex.specs.Solutions.{AllZero, weighs}
use Rattle.wc_simplex.proofs.DivisorLemmas.{gcd_is}
use Rattle.wc_simplex.proofs.RowLemmas.{mix_value, mixes_cons}

pub nothing_mixed : (a b : ℤ) → pos 0 ≡ a *ℤ pos 0 -ℤ b *ℤ pos 0
nothing_mixed a b = omega (arith, ints, *ℤ-zero a, *ℤ-zero b)

weighs_mix : (c : ℕ → ℤ) (k : ℕ) (a b : ℤ) (row pivot new : List ℤ) → length row ≡ length pivot → mix_row a b row pivot ≡ Some new
    → weighs c k new ≡ a *ℤ weighs c k row -ℤ b *ℤ weighs c k pivot
weighs_mix c k a b [] [] new same is =
    let none : new ≡ [] = cc in
    ap (weighs c k) none ∙ nothing_mixed a b
weighs_mix c k a b [] (y ∷ ys) new same is = absurd (omega arith)
weighs_mix c k a b (x ∷ xs) [] new same is = absurd (omega arith)
weighs_mix c k a b (x ∷ xs) (y ∷ ys) new same is =
    let parts = mixes_cons a b x y xs ys new is in
    let value : parts.head ≡ a *ℤ x -ℤ b *ℤ y = (mix_value a b x y parts.head parts.here).0 in
    let rest = weighs_mix c (suc k) a b xs ys parts.tail (omega arith) parts.later in
    ap (weighs c k) parts.whole
    ∙ omega (
      arith,
      ints,
      ap (λ v. c k *ℤ v) value,
      spread_sub (c k) (a *ℤ x) (b *ℤ y),
      exchange (c k) a x,
      exchange (c k) b y,
      rest,
      spread_left a (c k *ℤ x) (weighs c (suc k) xs),
      spread_left b (c k *ℤ y) (weighs c (suc k) ys),
    )

weighs_times : (c : ℕ → ℤ) (k : ℕ) (g : ℤ) (row : List ℤ) → weighs c k (map (λ x. g *ℤ x) row) ≡ g *ℤ weighs c k row
weighs_times c k g [] = sym (*ℤ-zero g)
weighs_times c k g (x ∷ xs) =
    omega (arith, ints, exchange (c k) g x, weighs_times c (suc k) g xs, spread_left g (c k *ℤ x) (weighs c (suc k) xs))

pub weighs_linear : (c : ℕ → ℤ) (k : ℕ) → IsLinear (weighs c k)
weighs_linear c k = record { mix = weighs_mix c k; times = weighs_times c k }

-- A division by what all entries have in common is exact.
row_gcd_parts : (d g : ℕ) (row : List ℤ) → d ∣ row_gcd g row → (d ∣ g) × AllByRecursion (λ x. d ∣ unsigned_abs x) row
row_gcd_parts d g [] is = (is, tt)
row_gcd_parts d g (x ∷ xs) is =
    let rest = row_gcd_parts d (gcd g (unsigned_abs x)) xs is in
    let both = gcd_is g (unsigned_abs x) in
    (dvd_trans d rest.0 both.0, (dvd_trans d rest.0 both.1, rest.1))

no_rest : (n : ℕ) (x : ℤ) → suc n ∣ unsigned_abs x → int_rem x (pos (suc n)) ≡ pos 0
no_rest n (pos a) is = ap pos (mod-eq-zero_of_dvd (suc n) is)
no_rest n (negsuc a) is = ap (λ m. neg_ℤ (pos m)) (mod-eq-zero_of_dvd (suc n) is)

exact_part : (n : ℕ) (x : ℤ) → suc n ∣ unsigned_abs x → pos (suc n) *ℤ int_div x (pos (suc n)) ≡ x
exact_part n x is =
    omega (arith, ints, *ℤ_comm (pos (suc n)) (int_div x (pos (suc n))), quot-rem x (pos (suc n)), no_rest n x is)

exact_parts : (n : ℕ) (row : List ℤ) → AllByRecursion (λ x. suc n ∣ unsigned_abs x) row → map (λ x. pos (suc n) *ℤ x) (map (λ x. int_div x (pos (suc n))) row) ≡ row
exact_parts n [] each = refl
exact_parts n (x ∷ xs) each = ap₂ (λ y ys. y ∷ ys) (exact_part n x each.0) (exact_parts n xs each.1)

-- lowest terms are a fraction of the row
pub lowest_all : (row : List ℤ) → (g : ℕ) × ((f : List ℤ → ℤ) → IsLinear f → pos (suc g) *ℤ f (lowest row) ≡ f row)
lowest_all row = by (nat_le (row_gcd 0 row) 1) refl (row_gcd 0 row) refl
  where
    by : (b : Bool) → nat_le (row_gcd 0 row) 1 ≡ b → (n : ℕ) → row_gcd 0 row ≡ n
        → (g : ℕ) × ((f : List ℤ → ℤ) → IsLinear f → pos (suc g) *ℤ f (if b then row else map (λ x. int_div x (pos n)) row) ≡ f row)
    by true few n is = (0, λ f linear. one_times (f row))
    by false many zero is =
        let small : nat_le 0 1 ≡ false = subst (λ m. nat_le m 1 ≡ false) is many in
        absurd (cc)
    by false many (suc n) is =
        let divides : suc n ∣ row_gcd 0 row = subst (λ m. suc n ∣ m) (sym is) (dvd_refl (suc n)) in
        (n, λ f linear. sym (linear.times (pos (suc n)) (map (λ x. int_div x (pos (suc n))) row)) ∙ ap f (exact_parts n row (row_gcd_parts (suc n) 0 row divides).1))

lowest_part : (f : List ℤ → ℤ) (row : List ℤ) → IsLinear f → (g : ℕ) × (pos (suc g) *ℤ f (lowest row) ≡ f row)
lowest_part f row linear = let part = lowest_all row in (part.0, part.1 f linear)

-- What a pivot makes of a row: so much of it less so much of the pivot's row, over a divisor.
pub record IsMix (f : List ℤ → ℤ) (row pivot new : List ℤ) : Type 0 where
  pub divisor : ℕ
  pub own : ℕ
  pub other : ℤ
  pub is : pos (suc divisor) *ℤ f new ≡ pos (suc own) *ℤ f row -ℤ other *ℤ f pivot

above_zero : (x : ℤ) → is_positive x ≡ true → (n : ℕ) × (x ≡ pos (suc n))
above_zero (pos zero) is = absurd (cc)
above_zero (pos (suc n)) is = (n, refl)
above_zero (negsuc n) is = absurd (cc)

pub reduced_mix : (f : List ℤ → ℤ) (j : ℕ) (row pivot new : List ℤ) → IsLinear f → length row ≡ length pivot → is_positive (entry pivot j) ≡ true → reduced j pivot row ≡ Some new → IsMix f row pivot new
reduced_mix f j row pivot new linear same above is = by (is_zero (entry row j)) (mix_row (entry pivot j) (entry row j) row pivot) refl is
  where
    by : (b : Bool) (o : Option (List ℤ)) → mix_row (entry pivot j) (entry row j) row pivot ≡ o → (if b then Some row else option_map lowest o) ≡ Some new → IsMix f row pivot new
    by true o mixed is =
        let stays : row ≡ new = cc in
        record { divisor = 0; own = 0; other = pos 0; is = omega (arith, ints, ap (λ r. pos 1 *ℤ f r) stays, zero-*ℤ (f pivot)) }
    by false None mixed is = absurd (cc)
    by false (Some m) mixed is =
        let low : lowest m ≡ new = cc in
        let part = lowest_part f m linear in
        let own = above_zero (entry pivot j) above in
        record {
          divisor = part.0;
          own = own.0;
          other = entry row j;
          is = ap (λ r. pos (suc part.0) *ℤ f r) (sym low) ∙ part.1 ∙ linear.mix (entry pivot j) (entry row j) row pivot m same mixed
              ∙ ap (λ a. a *ℤ f row -ℤ entry row j *ℤ f pivot) own.1;
        }

-- An equation that the pivot's row meets is met by the row before exactly where it is met after.
pub meets_after : (f : List ℤ → ℤ) (row pivot new : List ℤ) → IsMix f row pivot new → f pivot ≡ pos 0 → f row ≡ pos 0 → f new ≡ pos 0
meets_after f row pivot new m none before =
    only_zero m.divisor (f new)
    (omega (arith, ints, m.is, ap (λ z. pos (suc m.own) *ℤ z) before, *ℤ-zero (pos (suc m.own)), ap (λ z. m.other *ℤ z) none, *ℤ-zero m.other))

pub meets_before : (f : List ℤ → ℤ) (row pivot new : List ℤ) → IsMix f row pivot new → f pivot ≡ pos 0 → f new ≡ pos 0 → f row ≡ pos 0
meets_before f row pivot new m none after =
    only_zero m.own (f row)
    (omega (arith, ints, m.is, ap (λ z. pos (suc m.divisor) *ℤ z) after, *ℤ-zero (pos (suc m.divisor)), ap (λ z. m.other *ℤ z) none, *ℤ-zero m.other))

-- what the first row becomes, and the later ones
pub record OthersParts (r j : ℕ) (pivot : List ℤ) (i : ℕ) (row : List ℤ) (rows new : List (List ℤ)) : Type 0 where
  pub head : List ℤ
  pub tail : List (List ℤ)
  pub here : (if i == r then Some row else reduced j pivot row) ≡ Some head
  pub later : reduced_others r j pivot (i + 1) rows ≡ Some tail
  pub whole : new ≡ head ∷ tail

pub others_parts : (r j : ℕ) (pivot : List ℤ) (i : ℕ) (row : List ℤ) (rows new : List (List ℤ)) → reduced_others r j pivot i (row ∷ rows) ≡ Some new → OthersParts r j pivot i row rows new
others_parts r j pivot i row rows new is = by (if i == r then Some row else reduced j pivot row) refl (reduced_others r j pivot (i + 1) rows) refl is
  where
    by : (o : Option (List ℤ)) → (if i == r then Some row else reduced j pivot row) ≡ o → (l : Option (List (List ℤ))) → reduced_others r j pivot (i + 1) rows ≡ l
        → option_and_then (λ z. option_map (λ zs. z ∷ zs) l) o ≡ Some new → OthersParts r j pivot i row rows new
    by None p l q e = absurd (cc)
    by (Some z) p None q e = absurd (cc)
    by (Some z) p (Some zs) q e =
        let whole : new ≡ z ∷ zs = cc in
        record { head = z; tail = zs; here = p; later = q; whole = whole }

row_mix : (f : List ℤ → ℤ) (b : Bool) (j : ℕ) (row pivot new : List ℤ) → IsLinear f → length row ≡ length pivot → is_positive (entry pivot j) ≡ true → (if b then Some row else reduced j pivot row) ≡ Some new → IsMix f row pivot new
row_mix f true j row pivot new linear same above is =
    let stays : row ≡ new = cc in
    record { divisor = 0; own = 0; other = pos 0; is = omega (arith, ints, ap (λ r. pos 1 *ℤ f r) stays, zero-*ℤ (f pivot)) }
row_mix f false j row pivot new linear same above is = reduced_mix f j row pivot new linear same above is

module _ (f : List ℤ → ℤ) (r j : ℕ) (pivot : List ℤ) (linear : IsLinear f) (above : is_positive (entry pivot j) ≡ true) (none : f pivot ≡ pos 0) where
  pub others_after : (i : ℕ) (rows new : List (List ℤ)) → HaveWidth (length pivot) rows → reduced_others r j pivot i rows ≡ Some new → AllZero f rows → AllZero f new
  others_after i [] new wide is zeros =
      let empty : new ≡ [] = cc in
      subst (λ (l : List (List ℤ)). AllZero f l) (sym empty) tt
  others_after i (row ∷ rows) new wide is zeros =
      let parts = others_parts r j pivot i row rows new is in
      let m = row_mix f (i == r) j row pivot parts.head linear wide.0 above parts.here in
      subst (λ (l : List (List ℤ)). AllZero f l) (sym parts.whole) (meets_after f row pivot parts.head m none zeros.0, others_after (i + 1) rows parts.tail wide.1 parts.later zeros.1)

  pub others_before : (i : ℕ) (rows new : List (List ℤ)) → HaveWidth (length pivot) rows → reduced_others r j pivot i rows ≡ Some new → AllZero f new → AllZero f rows
  others_before i [] new wide is zeros = tt
  others_before i (row ∷ rows) new wide is zeros =
      let parts = others_parts r j pivot i row rows new is in
      let m = row_mix f (i == r) j row pivot parts.head linear wide.0 above parts.here in
      let both : AllZero f (parts.head ∷ parts.tail) = subst (λ (l : List (List ℤ)). AllZero f l) parts.whole zeros in
      (meets_before f row pivot parts.head m none both.0, others_before (i + 1) rows parts.tail wide.1 parts.later both.1)
