-- Laws of products of signed numbers: distribution, association, monotony.
use Rattle.std.proofs.Common.{◌≡◌, ℕ, zero, suc, ℤ, pos, negsuc, ◌+ℤ◌, ◌-ℤ◌, ◌*ℤ◌, neg_ℤ, ◌≤ℤ◌, refl, sym, ap, ◌∙◌, arith}
use Rattle.std.proofs.Math.IntN.{*ℤ-zero, zero-*ℤ, *ℤ-negsuc, *ℤ_comm, suc_ℤ-*ℤ}
use Rattle.std.proofs.lemmas.Int.{ints}

pub *ℤ-suc : (m : ℤ) (n : ℕ) → m *ℤ pos (suc n) ≡ m *ℤ pos n +ℤ m
*ℤ-suc m n = *ℤ_comm m (pos (suc n)) ∙ suc_ℤ-*ℤ (pos n) m ∙ ap (λ z. z +ℤ m) (*ℤ_comm (pos n) m)

spread_pos : (a b : ℤ) (n : ℕ) → (a +ℤ b) *ℤ pos n ≡ a *ℤ pos n +ℤ b *ℤ pos n
spread_pos a b zero = *ℤ-zero (a +ℤ b) ∙ sym (ap (λ z. z +ℤ b *ℤ pos zero) (*ℤ-zero a) ∙ ap (λ z. pos zero +ℤ z) (*ℤ-zero b))
spread_pos a b (suc n) = omega (arith, ints, *ℤ-suc (a +ℤ b) n, *ℤ-suc a n, *ℤ-suc b n, spread_pos a b n)

pub spread : (a b c : ℤ) → (a +ℤ b) *ℤ c ≡ a *ℤ c +ℤ b *ℤ c
spread a b (pos n) = spread_pos a b n
spread a b (negsuc n) = omega (arith, ints, *ℤ-negsuc (a +ℤ b) n, *ℤ-negsuc a n, *ℤ-negsuc b n, spread_pos a b (suc n))

pub spread_left : (c a b : ℤ) → c *ℤ (a +ℤ b) ≡ c *ℤ a +ℤ c *ℤ b
spread_left c a b = omega (arith, ints, *ℤ_comm c (a +ℤ b), *ℤ_comm c a, *ℤ_comm c b, spread a b c)

assoc_pos : (a b : ℤ) (n : ℕ) → (a *ℤ b) *ℤ pos n ≡ a *ℤ (b *ℤ pos n)
assoc_pos a b zero = *ℤ-zero (a *ℤ b) ∙ sym (ap (λ z. a *ℤ z) (*ℤ-zero b) ∙ *ℤ-zero a)
assoc_pos a b (suc n) = *ℤ-suc (a *ℤ b) n ∙ ap (λ z. z +ℤ a *ℤ b) (assoc_pos a b n) ∙ sym (spread_left a (b *ℤ pos n) b) ∙ sym (ap (λ z. a *ℤ z) (*ℤ-suc b n))

monotone_pos : (n : ℕ) (c u : ℤ) → c ≤ℤ u → (pos n *ℤ c) ≤ℤ (pos n *ℤ u)
monotone_pos zero c u le = omega (arith, ints, zero-*ℤ c, zero-*ℤ u)
monotone_pos (suc n) c u le = omega (arith, ints, suc_ℤ-*ℤ (pos n) c, suc_ℤ-*ℤ (pos n) u, monotone_pos n c u le)

pub monotone : (x c u : ℤ) → pos 0 ≤ℤ x → c ≤ℤ u → (x *ℤ c) ≤ℤ (x *ℤ u)
monotone (pos n) c u some le = monotone_pos n c u le
monotone (negsuc n) c u some le = absurd (omega (arith, ints))

pub times_one : (c : ℤ) → c *ℤ pos 1 ≡ c
times_one c = omega (arith, ints, *ℤ-suc c 0, *ℤ-zero c)

pub one_times : (c : ℤ) → pos 1 *ℤ c ≡ c
one_times c = *ℤ_comm (pos 1) c ∙ times_one c

-- The product with a negated number is the negated product.
pub times_neg : (a b : ℤ) → a *ℤ neg_ℤ b ≡ neg_ℤ (a *ℤ b)
times_neg a b = omega (arith, ints, spread_left a b (neg_ℤ b), ap (λ z. a *ℤ z) (sum_none b), *ℤ-zero a)
  where
    sum_none : (b : ℤ) → b +ℤ neg_ℤ b ≡ pos 0
    sum_none b = omega (arith, ints)

pub neg_times : (a b : ℤ) → neg_ℤ a *ℤ b ≡ neg_ℤ (a *ℤ b)
neg_times a b = *ℤ_comm (neg_ℤ a) b ∙ times_neg b a ∙ ap neg_ℤ (*ℤ_comm b a)

pub spread_less : (a b c : ℤ) → (a -ℤ b) *ℤ c ≡ a *ℤ c -ℤ b *ℤ c
spread_less a b c = omega (arith, ints, spread a (neg_ℤ b) c, neg_times b c, ap (λ z. z *ℤ c) (less a b))
  where
    less : (a b : ℤ) → a -ℤ b ≡ a +ℤ neg_ℤ b
    less a b = omega (arith, ints)

pub spread_sub : (c a b : ℤ) → c *ℤ (a -ℤ b) ≡ c *ℤ a -ℤ c *ℤ b
spread_sub c a b = omega (arith, ints, *ℤ_comm c (a -ℤ b), *ℤ_comm c a, *ℤ_comm c b, spread_less a b c)

pub assoc : (a b c : ℤ) → (a *ℤ b) *ℤ c ≡ a *ℤ (b *ℤ c)
assoc a b (pos n) = assoc_pos a b n
assoc a b (negsuc n) =
    *ℤ-negsuc (a *ℤ b) n ∙ ap neg_ℤ (assoc_pos a b (suc n)) ∙ sym (times_neg a (b *ℤ pos (suc n))) ∙ ap (λ z. a *ℤ z) (sym (*ℤ-negsuc b n))

pub exchange : (c a x : ℤ) → c *ℤ (a *ℤ x) ≡ a *ℤ (c *ℤ x)
exchange c a x = sym (assoc c a x) ∙ ap (λ z. z *ℤ x) (*ℤ_comm c a) ∙ assoc a c x

-- A factor above 0 is taken off.
pub cancel : (n : ℕ) (a b : ℤ) → (pos (suc n) *ℤ a) ≤ℤ (pos (suc n) *ℤ b) → a ≤ℤ b
cancel n a b le = by (b -ℤ a) refl
  where
    by : (z : ℤ) → b -ℤ a ≡ z → a ≤ℤ b
    by (pos k) is = omega (arith, ints, is)
    by (negsuc k) is =
        let great : (b +ℤ pos 1) ≤ℤ a = omega (arith, ints, is) in
        let more = monotone (pos (suc n)) (b +ℤ pos 1) a (omega (arith, ints)) great in
        absurd (omega (arith, ints, le, more, spread_left (pos (suc n)) b (pos 1), times_one (pos (suc n))))

pub only_zero : (n : ℕ) (x : ℤ) → pos (suc n) *ℤ x ≡ pos 0 → x ≡ pos 0
only_zero n x none =
    let low : pos 0 ≤ℤ x = cancel n (pos 0) x (omega (arith, ints, none, *ℤ-zero (pos (suc n)))) in
    let high : x ≤ℤ pos 0 = cancel n x (pos 0) (omega (arith, ints, none, *ℤ-zero (pos (suc n)))) in
    omega (arith, ints, low, high)
