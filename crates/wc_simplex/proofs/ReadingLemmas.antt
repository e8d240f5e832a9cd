-- Counts that are read from the last tableau, over their common denominator.
use Rattle.std.proofs.Common.{◌≡◌, ℕ, zero, suc, ◌+◌, ◌-◌, ◌*◌, ◌/◌, ◌<◌, ◌≤◌, ◌==◌, nat_lt, ℤ, pos, negsuc, ◌+ℤ◌, ◌-ℤ◌, ◌*ℤ◌, neg_ℤ, ◌≤ℤ◌, ◌<ℤ◌, Bool, true, false, if◌then◌else◌, List, [], ◌∷◌, map, get_or, length, inl, inr, ◌⊎◌, Option, None, Some, option_and_then, option_map, refl, sym, ap, ap₂, subst, ◌∙◌, arith}
use Rattle.std.specs.Int.RustNames.{unsigned_abs}
use Rattle.std.specs.Prelude.{slice_get}
use Rattle.std.specs.List.{All, range_with_len}
use Prim.Native.Nat.{◌∣◌}
use Rattle.std.proofs.Math.IntN.{*ℤ-zero, zero-*ℤ, *ℤ_comm}
use Rattle.std.proofs.Math.Nat.{div-mul_cancel, dvd-mul_left, dvd-mul_right, mul_assoc, mul_comm}
use Rattle.std.proofs.lemmas.Bool.{cases_eq, eq-eqb, ne_eqb}
use Rattle.std.proofs.lemmas.Bool.Decides.{nat_tests}
use Rattle.std.proofs.lemmas.Int.{ints}
use Rattle.std.proofs.lemmas.List.FromFn.{get_or-range_with_len, length-range_with_len}
use Rattle.std.proofs.lemmas.Nat.Gcd.{dvd_refl, dvd_trans}
use Rattle.std.proofs.lemmas.Option.{get_or_from_slice_get, same_Some, slice_get_within}
use Rattle.wc_base.specs.Sums.{chosen, sum_in, sum_placed}
use Rattle.wc_base.proofs.Products.{assoc}
use Rattle.wc_base.proofs.SumLemmas.{sum_same}
use Rattle.wc_dual.proofs.DualityLemmas.{get_all}
use Rattle.wc_model.specs.declared.flow_system.System.{System}
use Rattle.wc_model.specs.declared.flow_system.SystemStep.{SystemStep}
use Rattle.wc_model.specs.Flow.Counts.{IsBounded, IsFeasible, IsLimited, cycles, into, out_of, value_of}
use Rattle.wc_model.specs.Flow.Exact.{each_of, exact, gcd}
use Rattle.wc_model.specs.Flow.Places.{number_at}
use Rattle.wc_model.specs.Flow.RowMachine.{Shape, Tableau, cell, is_real}
use Rattle.wc_model.specs.Flow.RowResults as results
use Rattle.wc_model.specs.Flow.RowResults.{common, common_from, count_in, counts_of, row_of, scaled, sum_terms, value_terms}
use Rattle.wc_model.specs.Flow.Systems.{IsSystem, leads_to}
use Rattle.wc_simplex.specs.Inner.Reached.{IsBasic, IsReached}
use Rattle.wc_simplex.proofs.BasisLemmas.{at_basis, at_basis_none}
use Rattle.wc_simplex.proofs.DivisorLemmas.{gcd_is}
use Rattle.wc_simplex.proofs.ExactLemmas.{kept_is}
use Rattle.wc_simplex.proofs.LineSums.{each_at}
use Rattle.wc_simplex.proofs.StartLemmas.{each_length}

-- the greatest common divisor of numbers of which one is above 0 is above 0
pub gcd_some : (a b : ℕ) → 0 < b → 0 < gcd a b
gcd_some a b some = by (gcd a b) refl
  where
    by : (g : ℕ) → gcd a b ≡ g → 0 < g
    by zero e =
        let divides : 0 ∣ b = subst (λ g. g ∣ b) e (gcd_is a b).1 in
        absurd (omega (arith, some, sym (div-mul_cancel 0 divides), none (b / 0)))
      where
        none : (n : ℕ) → n * 0 ≡ 0
        none n = omega arith
    by (suc g) e = omega arith

pub part_some : (a b : ℕ) → 0 < b → 0 < b / gcd a b
part_some a b some = by (b / gcd a b) refl
  where
    by : (q : ℕ) → b / gcd a b ≡ q → 0 < q
    by zero e = absurd (omega (arith, some, sym (div-mul_cancel (gcd a b) (gcd_is a b).1), ap (λ q. q * gcd a b) e, none (gcd a b)))
      where
        none : (n : ℕ) → 0 * n ≡ 0
        none n = omega arith
    by (suc q) e = omega arith

-- a fraction in lowest terms is the same fraction
lowest_same : (over under : ℕ) → (over / gcd over under) * under ≡ (under / gcd over under) * over
lowest_same over under =
    let first = div-mul_cancel (gcd over under) (gcd_is over under).0 in
    let second = div-mul_cancel (gcd over under) (gcd_is over under).1 in
    ap (λ n. (over / gcd over under) * n) (sym second)
    ∙ sym (mul_assoc (over / gcd over under) (under / gcd over under) (gcd over under))
    ∙ ap (λ n. n * gcd over under) (mul_comm (over / gcd over under) (under / gcd over under))
    ∙ mul_assoc (under / gcd over under) (over / gcd over under) (gcd over under)
    ∙ ap (λ n. (under / gcd over under) * n) first

-- The least common multiple so far.
pub record IsCommon (den next : ℕ) (v : ℤ) : Type 0 where
  pub all : ℕ
  pub is : v ≡ pos all
  pub some : 0 < all
  pub old : den ∣ all
  pub new : next ∣ all

product_some : (a b : ℕ) → 0 < a → 0 < b → 0 < a * b
product_some zero b some_a some_b = absurd (omega (arith, some_a))
product_some (suc a) zero some_a some_b = absurd (omega (arith, some_b))
product_some (suc a) (suc b) some_a some_b = grind arith

times_pos : (a b : ℕ) → pos a *ℤ pos b ≡ pos (a * b)
times_pos a b = refl

common_is : (den next : ℕ) (v : ℤ) → 0 < den → 0 < next → common den next ≡ Some v → IsCommon den next v
common_is den next v some_den some_next is =
    record {
      all = den / gcd den next * next;
      is = sym (kept_is (pos (den / gcd den next) *ℤ pos next) v is).0 ∙ times_pos (den / gcd den next) next;
      some = product_some (den / gcd den next) next (part (den / gcd den next) refl) some_next;
      old = subst (λ n. den ∣ n) parts (dvd-mul_right den (next / gcd den next));
      new = dvd-mul_left next (den / gcd den next);
    }
  where
    part : (q : ℕ) → den / gcd den next ≡ q → 0 < den / gcd den next
    part zero e = absurd (omega (arith, some_den, sym (div-mul_cancel (gcd den next) (gcd_is den next).0), ap (λ q. q * gcd den next) e, none (gcd den next)))
      where
        none : (n : ℕ) → 0 * n ≡ 0
        none n = omega arith
    part (suc q) e = omega (arith, e)

    parts : den * (next / gcd den next) ≡ den / gcd den next * next
    parts =
        ap (λ n. n * (next / gcd den next)) (sym (div-mul_cancel (gcd den next) (gcd_is den next).0))
        ∙ mul_assoc (den / gcd den next) (gcd den next) (next / gcd den next)
        ∙ ap (λ n. den / gcd den next * n) (mul_comm (gcd den next) (next / gcd den next) ∙ div-mul_cancel (gcd den next) (gcd_is den next).1)

-- a number from 0 on
abs_pos : (x : ℤ) → pos 0 ≤ℤ x → x ≡ pos (unsigned_abs x)
abs_pos (pos n) low = refl
abs_pos (negsuc n) low = absurd (omega (arith, ints, low))

module _ (shape : Shape) (t : Tableau) (above : (k : ℕ) → k < length t.rows → pos 0 <ℤ cell t k (get_or t.basis k 0)) (sides : (k : ℕ) → k < length t.rows → pos 0 ≤ℤ cell t k shape.right)
    (bases : length t.basis ≡ length t.rows) where
  pub under_some : (k : ℕ) → k < length t.rows → 0 < (count_in shape t k).under
  under_some k within =
      let entry = abs_pos (cell t k (get_or t.basis k 0)) (omega (arith, ints, above k within)) in
      part_some (unsigned_abs (cell t k shape.right)) (unsigned_abs (cell t k (get_or t.basis k 0))) (omega (arith, ints, entry, above k within))

  pub fraction_is : (k : ℕ) → k < length t.rows → pos (count_in shape t k).over *ℤ cell t k (get_or t.basis k 0) ≡ pos (count_in shape t k).under *ℤ cell t k shape.right
  fraction_is k within =
      let entry = abs_pos (cell t k (get_or t.basis k 0)) (omega (arith, ints, above k within)) in
      let side = abs_pos (cell t k shape.right) (sides k within) in
      ap (λ z. pos (count_in shape t k).over *ℤ z) entry
      ∙ ap pos (lowest_same (unsigned_abs (cell t k shape.right)) (unsigned_abs (cell t k (get_or t.basis k 0))))
      ∙ ap (λ z. pos (count_in shape t k).under *ℤ z) (sym side)

  -- the denominator over all rows from `r` on
  pub record IsDenominator (r : ℕ) (den : ℕ) (basis : List ℕ) (v : ℤ) : Type 0 where
    pub all : ℕ
    pub is : v ≡ pos all
    pub some : 0 < all
    pub old : den ∣ all
    pub each : (k : ℕ) → k < length basis → get_or basis k 0 < shape.real → (count_in shape t (r + k)).under ∣ all

  pub denominator_is : (r den : ℕ) (basis : List ℕ) (v : ℤ) → 0 < den → r + length basis ≤ length t.rows → common_from shape t r (pos den) basis ≡ Some v → IsDenominator r den basis v
  denominator_is r den [] v some few is =
      record { all = den; is = sym (same_Some (pos den) v is); some = some; old = dvd_refl den; each = λ k within real. absurd (omega (arith, within)) }
  denominator_is r den (b ∷ bs) v some few is =
      by (is_real shape b) refl is (λ d good e. denominator_is (suc r) d bs v good (omega (arith, few)) e)
    where
      here : r + 0 ≡ r
      here = omega arith

      each_by : (all : ℕ) → (b < shape.real → (count_in shape t r).under ∣ all) → ((k : ℕ) → k < length bs → get_or bs k 0 < shape.real → (count_in shape t (suc r + k)).under ∣ all)
          → (k : ℕ) → k < suc (length bs) → get_or (b ∷ bs) k 0 < shape.real → (count_in shape t (r + k)).under ∣ all
      each_by all first later zero within real = subst (λ n. (count_in shape t n).under ∣ all) (sym here) (first real)
      each_by all first later (suc k) within real =
          let more : suc r + k ≡ r + suc k = omega arith in
          subst (λ n. (count_in shape t n).under ∣ all) more (later k (omega (arith, within)) real)

      at : (o : Option ℤ) → common den (count_in shape t r).under ≡ o → option_and_then (λ more. common_from shape t (suc r) more bs) o ≡ Some v
          → ((d : ℕ) → 0 < d → common_from shape t (suc r) (pos d) bs ≡ Some v → IsDenominator (suc r) d bs v) → IsDenominator r den (b ∷ bs) v
      at None p e go = absurd (cc)
      at (Some more) p e go =
          let both = common_is den (count_in shape t r).under more some (under_some r (omega (arith, few))) p in
          let rest = go both.all both.some (ap (λ z. common_from shape t (suc r) z bs) (sym both.is) ∙ e) in
          record {
            all = rest.all;
            is = rest.is;
            some = rest.some;
            old = dvd_trans den both.old rest.old;
            each = each_by rest.all (λ real. dvd_trans (count_in shape t r).under both.new rest.old) rest.each;
          }

      by : (c : Bool) → is_real shape b ≡ c → (if c then option_and_then (λ more. common_from shape t (suc r) more bs) (common den (count_in shape t r).under) else common_from shape t (suc r) (pos den) bs) ≡ Some v
          → ((d : ℕ) → 0 < d → common_from shape t (suc r) (pos d) bs ≡ Some v → IsDenominator (suc r) d bs v) → IsDenominator r den (b ∷ bs) v
      by true real e go = at (common den (count_in shape t r).under) refl e go
      by false far e go =
          let rest = go den some e in
          let beyond : shape.real ≤ b = grind (arith, nat_tests) in
          record { all = rest.all; is = rest.is; some = rest.some; old = rest.old; each = each_by rest.all (λ real. absurd (omega (arith, real, beyond))) rest.each }

  -- The counts of the rows over a denominator.
  abbrev pub row_count : ℕ → ℕ → ℤ
  row_count den k = if is_real shape (get_or t.basis k 0) then pos (count_in shape t k).over *ℤ pos (den / (count_in shape t k).under) else pos 0

  pub row_solves : (den : ℕ) → ((k : ℕ) → k < length t.rows → get_or t.basis k 0 < shape.real → (count_in shape t k).under ∣ den)
      → ((k : ℕ) → k < length t.rows → shape.real ≤ get_or t.basis k 0 → cell t k shape.right ≡ pos 0)
      → (k : ℕ) → k < length t.rows → row_count den k *ℤ cell t k (get_or t.basis k 0) ≡ pos den *ℤ cell t k shape.right
  row_solves den divides none k within = by (is_real shape (get_or t.basis k 0)) refl
    where
      by : (c : Bool) → is_real shape (get_or t.basis k 0) ≡ c
          → (if c then pos (count_in shape t k).over *ℤ pos (den / (count_in shape t k).under) else pos 0) *ℤ cell t k (get_or t.basis k 0) ≡ pos den *ℤ cell t k shape.right
      by true real =
          let inside : get_or t.basis k 0 < shape.real = grind (arith, nat_tests) in
          let whole : den / (count_in shape t k).under * (count_in shape t k).under ≡ den = div-mul_cancel (count_in shape t k).under (divides k within inside) in
          ap (λ z. z *ℤ cell t k (get_or t.basis k 0)) (*ℤ_comm (pos (count_in shape t k).over) (pos (den / (count_in shape t k).under)))
          ∙ assoc (pos (den / (count_in shape t k).under)) (pos (count_in shape t k).over) (cell t k (get_or t.basis k 0))
          ∙ ap (λ z. pos (den / (count_in shape t k).under) *ℤ z) (fraction_is k within)
          ∙ sym (assoc (pos (den / (count_in shape t k).under)) (pos (count_in shape t k).under) (cell t k shape.right))
          ∙ ap (λ n. pos n *ℤ cell t k shape.right) whole
      by false far =
          let beyond : shape.real ≤ get_or t.basis k 0 = grind (arith, nat_tests) in
          zero-*ℤ (cell t k (get_or t.basis k 0)) ∙ sym (ap (λ z. pos den *ℤ z) (none k within beyond) ∙ *ℤ-zero (pos den))

  pub row_some : (den k : ℕ) → pos 0 ≤ℤ row_count den k
  row_some den k = by (is_real shape (get_or t.basis k 0))
    where
      by : (c : Bool) → pos 0 ≤ℤ (if c then pos (count_in shape t k).over *ℤ pos (den / (count_in shape t k).under) else pos 0)
      by true = omega (arith, ints)
      by false = omega (arith, ints)

  pub row_none : (den k : ℕ) → shape.real ≤ get_or t.basis k 0 → row_count den k ≡ pos 0
  row_none den k far =
      let test : is_real shape (get_or t.basis k 0) ≡ false = grind (arith, nat_tests) in
      ap (λ c. if c then pos (count_in shape t k).over *ℤ pos (den / (count_in shape t k).under) else pos 0) test

-- The row of a column, where no column stands twice.
abbrev pub in_row : (ℕ → ℤ) → Option ℕ → ℤ
in_row x None = pos 0
in_row x (Some r) = x r

pub at_row : (x : ℕ → ℤ) (k : ℕ) (basis : List ℕ) (j : ℕ) → ((i m : ℕ) → i < length basis → m < length basis → get_or basis i 0 ≡ get_or basis m 0 → i ≡ m)
    → at_basis x k basis j ≡ in_row x (row_of j k basis)
at_row x k [] j apart = refl
at_row x k (b ∷ bs) j apart =
    by (cases_eq b j) (at_row x (suc k) bs j (λ i m few_i few_m same. let next = apart (suc i) (suc m) (omega (arith, few_i)) (omega (arith, few_m)) same in omega (arith, next)))
  where
    none : b ≡ j → at_basis x (suc k) bs j ≡ pos 0
    none same = at_basis_none x (suc k) bs j (λ i few at. absurd (wrong i (apart 0 (suc i) (omega arith) (omega (arith, few)) (same ∙ sym at))))
      where
        wrong : (i : ℕ) → 0 ≡ suc i → ⊥
        wrong i e = omega (arith, e)

    by : (b ≡ j) ⊎ (b ≡ j → ⊥) → at_basis x (suc k) bs j ≡ in_row x (row_of j (suc k) bs) → chosen (b == j) (x k) +ℤ at_basis x (suc k) bs j ≡ in_row x (if b == j then Some k else row_of j (suc k) bs)
    by (inl same) later =
        omega (arith, ints, ap (λ c. chosen c (x k)) (eq-eqb b j same), none same, ap (λ c. in_row x (if c then Some k else row_of j (suc k) bs)) (eq-eqb b j same))
    by (inr other) later =
        omega (arith, ints, ap (λ c. chosen c (x k)) (ne_eqb b j other), later, ap (λ c. in_row x (if c then Some k else row_of j (suc k) bs)) (ne_eqb b j other))

-- a row that is found has the column
pub row_has : (j k : ℕ) (basis : List ℕ) (r : ℕ) → row_of j k basis ≡ Some r → (m : ℕ) × (r ≡ k + m) × (m < length basis) × (get_or basis m 0 ≡ j)
row_has j k [] r is = absurd (cc)
row_has j k (b ∷ bs) r is = by (cases_eq b j) (λ e. row_has j (suc k) bs r e)
  where
    by : (b ≡ j) ⊎ (b ≡ j → ⊥) → (row_of j (suc k) bs ≡ Some r → (m : ℕ) × (r ≡ suc k + m) × (m < length bs) × (get_or bs m 0 ≡ j)) → (m : ℕ) × (r ≡ k + m) × (m < suc (length bs)) × (get_or (b ∷ bs) m 0 ≡ j)
    by (inl same) go =
        let first : k ≡ r = same_Some k r (ap (λ c. if c then Some k else row_of j (suc k) bs) (sym (eq-eqb b j same)) ∙ is) in
        (0, omega (arith, first), omega arith, same)
    by (inr other) go =
        let rest = go (ap (λ c. if c then Some k else row_of j (suc k) bs) (sym (ne_eqb b j other)) ∙ is) in
        (suc rest.0, omega (arith, rest.1), omega (arith, rest.2), rest.3)

pub basis_apart : (shape : Shape) (start t : Tableau) → IsReached shape start t → (i m : ℕ) → i < length t.basis → m < length t.basis → get_or t.basis i 0 ≡ get_or t.basis m 0 → i ≡ m
basis_apart shape start t reached_is i m few_i few_m same = by (cases_eq i m)
  where
    by : (i ≡ m) ⊎ (i ≡ m → ⊥) → i ≡ m
    by (inl e) = e
    by (inr e) =
        let within_i : i < length t.rows = omega (arith, few_i, reached_is.basic.bases) in
        let within_m : m < length t.rows = omega (arith, few_m, reached_is.basic.bases) in
        absurd (omega (arith, ints, reached_is.above i within_i, ap (λ b. cell t i b) same, reached_is.basic.apart i m within_i within_m e))

-- Counts that are the same at all places.
module _ (s : System) (sound : IsSystem s) (x y : ℕ → ℤ) (same : (i : ℕ) → i < length s.steps → x i ≡ y i) where
  same_in : (places : List ℕ) → All (λ i. i < length s.steps) places → sum_in x places ≡ sum_in y places
  same_in places within = sum_same (λ _ i. x i) (λ _ i. y i) places (λ k i at. same i (get_all (λ i. i < length s.steps) places k i at within))

  same_out : (p : ℕ) → out_of s.steps x p ≡ out_of s.steps y p
  same_out p = sum_same (λ i t. chosen (t.source == p) (x i)) (λ i t. chosen (t.source == p) (y i)) s.steps (λ i t at. ap (chosen (t.source == p)) (same i (slice_get_within s.steps i t at)))

  same_into : (p : ℕ) → into s.steps x p ≡ into s.steps y p
  same_into p =
      sum_same (λ i t. chosen (leads_to t.target p) (x i)) (λ i t. chosen (leads_to t.target p) (y i)) s.steps (λ i t at. ap (chosen (leads_to t.target p)) (same i (slice_get_within s.steps i t at)))

  pub feasible_same : (den : ℤ) → IsFeasible s den x → IsFeasible s den y
  feasible_same den is =
      record {
        whole = is.whole;
        some = λ i within. subst (λ (z : ℤ). pos 0 ≤ℤ z) (same i within) (is.some i within);
        balanced = λ p within. ap₂ (λ m n. m -ℤ n) (sym (same_out p)) (sym (same_into p)) ∙ is.balanced p within;
        bounded = λ i d within.
            let l = sound.loops i d within in
            subst (λ (z : ℤ). z ≤ℤ (pos (get_or s.loops i d).bound *ℤ (sum_in y (get_or s.loops i d).entry +ℤ chosen ((get_or s.loops i d).head == s.start) den))) (same_in (get_or s.loops i d).back l.back.0)
            (subst (λ (z : ℤ). sum_in x (get_or s.loops i d).back ≤ℤ (pos (get_or s.loops i d).bound *ℤ (z +ℤ chosen ((get_or s.loops i d).head == s.start) den))) (same_in (get_or s.loops i d).entry l.entry.0)
            (is.bounded i d within));
        limited = λ i d within.
            subst (λ (z : ℤ). z ≤ℤ ((get_or s.limits i d).constant *ℤ den))
            (sum_same (λ _ f. f.1 *ℤ out_of s.steps x f.0) (λ _ f. f.1 *ℤ out_of s.steps y f.0) (get_or s.limits i d).factors (λ k f at. ap (λ z. f.1 *ℤ z) (same_out f.0))) (is.limited i d within);
      }

  pub value_same : value_of cycles s.steps x ≡ value_of cycles s.steps y
  value_same = sum_same (λ i t. cycles t *ℤ x i) (λ i t. cycles t *ℤ y i) s.steps (λ i t at. ap (λ z. cycles t *ℤ z) (same i (slice_get_within s.steps i t at)))

-- the value that is read
pub value_is : (acc : ℤ) (steps : List SystemStep) (xs : List ℤ) (v : ℤ) → length xs ≡ length steps → sum_terms acc (value_terms steps xs) ≡ Some v → v ≡ acc +ℤ value_of cycles steps (number_at xs)
value_is acc [] xs v same is = omega (arith, ints, same_Some acc v is)
value_is acc (t ∷ steps) [] v same is = absurd (omega (arith, same))
value_is acc (t ∷ steps) (x ∷ xs) v same is = by (exact (pos t.cost *ℤ x)) refl is (λ sum e. value_is sum steps xs v (omega (arith, same)) e)
  where
    at : (y : ℤ) → pos t.cost *ℤ x ≡ y → (o : Option ℤ) → exact (acc +ℤ y) ≡ o → option_and_then (λ sum. sum_terms sum (value_terms steps xs)) o ≡ Some v
        → ((sum : ℤ) → sum_terms sum (value_terms steps xs) ≡ Some v → v ≡ sum +ℤ value_of cycles steps (number_at xs)) → v ≡ acc +ℤ (pos t.cost *ℤ x +ℤ value_of cycles steps (number_at xs))
    at y p None q e go = absurd (cc)
    at y p (Some sum) q e go = omega (arith, ints, p, (kept_is (acc +ℤ y) sum q).0, go sum e)

    by : (o : Option ℤ) → exact (pos t.cost *ℤ x) ≡ o → option_and_then (λ y. option_and_then (λ sum. sum_terms sum (value_terms steps xs)) (exact (acc +ℤ y))) o ≡ Some v
        → ((sum : ℤ) → sum_terms sum (value_terms steps xs) ≡ Some v → v ≡ sum +ℤ value_of cycles steps (number_at xs)) → v ≡ acc +ℤ (pos t.cost *ℤ x +ℤ value_of cycles steps (number_at xs))
    by None p e go = absurd (cc)
    by (Some y) p e go = at y (kept_is (pos t.cost *ℤ x) y p).0 (exact (acc +ℤ y)) refl e go
