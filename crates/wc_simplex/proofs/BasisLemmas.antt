-- Numbers at the basis columns, and what they weigh.
use Rattle.std.proofs.Common.{◌≡◌, ℕ, zero, suc, ◌+◌, ◌-◌, ◌<◌, ◌≤◌, ◌==◌, nat_lt, ℤ, pos, negsuc, ◌+ℤ◌, ◌-ℤ◌, ◌*ℤ◌, neg_ℤ, ◌≤ℤ◌, ◌<ℤ◌, Bool, true, false, if◌then◌else◌, List, [], ◌∷◌, get_or, length, inl, inr, ◌⊎◌, refl, sym, ap, ap₂, subst, ◌∙◌, arith}
use Rattle.std.proofs.Math.IntN.{*ℤ-zero, zero-*ℤ, *ℤ_comm}
use Rattle.std.proofs.lemmas.Bool.{cases_eq, eq-eqb, ne_eqb}
use Rattle.std.proofs.lemmas.Bool.Decides.{nat_tests}
use Rattle.std.proofs.lemmas.Int.{ints}
use Rattle.wc_base.specs.Sums.{chosen}
use Rattle.wc_base.proofs.Products.{assoc, exchange, monotone, neg_times, only_zero, spread_left, times_one}
use Rattle.wc_model.specs.Flow.RowMachine.{Shape, Tableau, cell, entry}
use Rattle.wc_model.specs.Flow.Tableaus.{one_if}
use Rattle.wc_simplex.specs.Inner.Reached.{AreAbove, IsBasic, IsLinear, IsReached}
use Rattle.wc_simplex.specs.Solutions.{AllZero, weighs}
use Rattle.wc_simplex.proofs.BeginLemmas.{IsStart, column_sum}
use Rattle.wc_simplex.proofs.FunctionalLemmas.{add_linear, entry_linear, on_basis, on_basis_linear, scale_linear}
use Rattle.wc_simplex.proofs.PivotLemmas.{zero_each}
use Rattle.wc_simplex.proofs.SolutionLemmas.{zero_at}
use Rattle.wc_simplex.proofs.StepLemmas.{above_is}
use Rattle.wc_simplex.proofs.WeighLemmas.{weighs_add, weighs_unit}

-- the number at a column
abbrev pub at_basis : (ℕ → ℤ) → ℕ → List ℕ → ℕ → ℤ
at_basis x k [] j = pos 0
at_basis x k (b ∷ bs) j = chosen (b == j) (x k) +ℤ at_basis x (suc k) bs j

abbrev pub at_columns : ℤ → ℕ → (ℕ → ℤ) → List ℕ → ℕ → ℤ
at_columns z m x basis j = chosen (m == j) z +ℤ at_basis x 0 basis j

-- and what these numbers make of a row
abbrev pub on_columns : ℤ → ℕ → (ℕ → ℤ) → List ℕ → List ℤ → ℤ
on_columns z m x basis row = z *ℤ entry row m +ℤ on_basis x 0 basis row

pub on_columns_linear : (z : ℤ) (m : ℕ) (x : ℕ → ℤ) (basis : List ℕ) → IsLinear (on_columns z m x basis)
on_columns_linear z m x basis =
    let both = add_linear (λ row. z *ℤ entry row m) (on_basis x 0 basis) (scale_linear z (λ row. entry row m) (entry_linear m)) (on_basis_linear x 0 basis) in
    record { mix = both.mix; times = both.times }

weighs_none : (k : ℕ) (row : List ℤ) → weighs (λ j. pos 0) k row ≡ pos 0
weighs_none k [] = refl
weighs_none k (x ∷ xs) = omega (arith, ints, zero-*ℤ x, weighs_none (suc k) xs)

weighs_at : (m : ℕ) (z : ℤ) (row : List ℤ) → weighs (λ j. chosen (m == j) z) 0 row ≡ z *ℤ entry row m
weighs_at m z row =
    let none : 0 + m ≡ m = omega arith in
    ap (λ n. weighs (λ j. chosen (n == j) z) 0 row) (sym none) ∙ weighs_unit m z 0 row

weighs_basis : (x : ℕ → ℤ) (k : ℕ) (basis : List ℕ) (row : List ℤ) → weighs (at_basis x k basis) 0 row ≡ on_basis x k basis row
weighs_basis x k [] row = weighs_none 0 row
weighs_basis x k (b ∷ bs) row =
    weighs_add (λ j. chosen (b == j) (x k)) (at_basis x (suc k) bs) 0 row ∙ ap₂ (λ p q. p +ℤ q) (weighs_at b (x k) row) (weighs_basis x (suc k) bs row)

pub weighs_columns : (z : ℤ) (m : ℕ) (x : ℕ → ℤ) (basis : List ℕ) (row : List ℤ) → weighs (at_columns z m x basis) 0 row ≡ on_columns z m x basis row
weighs_columns z m x basis row =
    weighs_add (λ j. chosen (m == j) z) (at_basis x 0 basis) 0 row ∙ ap₂ (λ p q. p +ℤ q) (weighs_at m z row) (weighs_basis x 0 basis row)

-- signs and zeros at a column
pub at_basis_some : (x : ℕ → ℤ) (k : ℕ) (basis : List ℕ) (j : ℕ) → ((i : ℕ) → i < length basis → pos 0 ≤ℤ x (k + i)) → pos 0 ≤ℤ at_basis x k basis j
at_basis_some x k [] j some = omega (arith, ints)
at_basis_some x k (b ∷ bs) j some =
    let here : k + 0 ≡ k = omega arith in
    omega (
      arith,
      ints,
      by (b == j) (subst (λ (n : ℕ). pos 0 ≤ℤ x n) here (some 0 (omega arith))),
      at_basis_some x (suc k) bs j (λ i within. let more : k + suc i ≡ suc k + i = omega arith in subst (λ (n : ℕ). pos 0 ≤ℤ x n) more (some (suc i) (omega (arith, within)))),
    )
  where
    by : (c : Bool) → pos 0 ≤ℤ x k → pos 0 ≤ℤ chosen c (x k)
    by true low = low
    by false low = omega (arith, ints)

pub at_basis_none : (x : ℕ → ℤ) (k : ℕ) (basis : List ℕ) (j : ℕ) → ((i : ℕ) → i < length basis → get_or basis i 0 ≡ j → x (k + i) ≡ pos 0) → at_basis x k basis j ≡ pos 0
at_basis_none x k [] j none = refl
at_basis_none x k (b ∷ bs) j none =
    let here : k + 0 ≡ k = omega arith in
    omega (
      arith,
      ints,
      by (cases_eq b j) (λ same. subst (λ (n : ℕ). x n ≡ pos 0) here (none 0 (omega arith) same)),
      at_basis_none x (suc k) bs j (λ i within same. let more : k + suc i ≡ suc k + i = omega arith in subst (λ (n : ℕ). x n ≡ pos 0) more (none (suc i) (omega (arith, within)) same)),
    )
  where
    by : (b ≡ j) ⊎ (b ≡ j → ⊥) → (b ≡ j → x k ≡ pos 0) → chosen (b == j) (x k) ≡ pos 0
    by (inl same) go = ap (λ c. chosen c (x k)) (eq-eqb b j same) ∙ go same
    by (inr apart) go = ap (λ c. chosen c (x k)) (ne_eqb b j apart)

-- a row that is 0 at basis columns
pub on_basis_none : (x : ℕ → ℤ) (k : ℕ) (basis : List ℕ) (row : List ℤ) → ((i : ℕ) → i < length basis → entry row (get_or basis i 0) ≡ pos 0) → on_basis x k basis row ≡ pos 0
on_basis_none x k [] row none = refl
on_basis_none x k (b ∷ bs) row none =
    omega (arith, ints, ap (λ z. x k *ℤ z) (none 0 (omega arith)), *ℤ-zero (x k), on_basis_none x (suc k) bs row (λ i within. none (suc i) (omega (arith, within))))

pub on_basis_at : (x : ℕ → ℤ) (k : ℕ) (basis : List ℕ) (row : List ℤ) (i : ℕ) → i < length basis → ((m : ℕ) → m < length basis → (m ≡ i → ⊥) → entry row (get_or basis m 0) ≡ pos 0)
    → on_basis x k basis row ≡ x (k + i) *ℤ entry row (get_or basis i 0)
on_basis_at x k [] row i within none = absurd (omega arith)
on_basis_at x k (b ∷ bs) row zero within none =
    let here : k ≡ k + 0 = omega arith in
    omega (
      arith,
      ints,
      ap (λ n. x n *ℤ entry row b) here,
      on_basis_none x (suc k) bs row (λ i few. none (suc i) (omega (arith, few)) (λ same. omega (arith, same))),
    )
on_basis_at x k (b ∷ bs) row (suc i) within none =
    let more : suc k + i ≡ k + suc i = omega arith in
    omega (
      arith,
      ints,
      ap (λ z. x k *ℤ z) (none 0 (omega arith) (λ same. omega (arith, same))),
      *ℤ-zero (x k),
      on_basis_at x (suc k) bs row i (omega arith) (λ m few apart. none (suc m) (omega (arith, few)) (λ same. apart (omega (arith, same)))),
      ap (λ n. x n *ℤ entry row (get_or bs i 0)) more,
    )

-- A multiple of several numbers above 0.
pub record IsMultiple (n : ℕ) (es : ℕ → ℤ) : Type 0 where
  pub all : ℤ
  pub whole : pos 0 <ℤ all
  pub part : ℕ → ℤ
  pub low : (k : ℕ) → k < n → pos 0 ≤ℤ part k
  pub is : (k : ℕ) → k < n → part k *ℤ es k ≡ all

product_above : (a b : ℤ) → pos 0 <ℤ a → pos 0 <ℤ b → pos 0 <ℤ (a *ℤ b)
product_above a b above_a above_b =
    omega (arith, ints, monotone a (pos 1) b (omega (arith, ints, above_a)) (omega (arith, ints, above_b)), times_one a, above_a)

pub multiple_of : (n : ℕ) (es : ℕ → ℤ) → ((k : ℕ) → k < n → pos 0 <ℤ es k) → IsMultiple n es
multiple_of zero es above = record { all = pos 1; whole = omega (arith, ints); part = λ k. pos 0; low = λ k few. absurd (omega (arith, few)); is = λ k few. absurd (omega (arith, few)) }
multiple_of (suc n) es above =
    let rest = multiple_of n es (λ k few. above k (omega (arith, few))) in
    record {
      all = rest.all *ℤ es n;
      whole = product_above rest.all (es n) rest.whole (above n (omega arith));
      part = λ k. if k == n then rest.all else rest.part k *ℤ es n;
      low = λ k few. low rest k few (cases_eq k n);
      is = λ k few. is rest k few (cases_eq k n);
    }
  where
    low : (rest : IsMultiple n es) (k : ℕ) → k < suc n → (k ≡ n) ⊎ (k ≡ n → ⊥) → pos 0 ≤ℤ (if k == n then rest.all else rest.part k *ℤ es n)
    low rest k few (inl same) = subst (λ (z : ℤ). pos 0 ≤ℤ z) (sym (ap (λ c. if c then rest.all else rest.part k *ℤ es n) (eq-eqb k n same))) (omega (arith, ints, rest.whole))
    low rest k few (inr apart) =
        subst (λ (z : ℤ). pos 0 ≤ℤ z) (sym (ap (λ c. if c then rest.all else rest.part k *ℤ es n) (ne_eqb k n apart)))
        (omega (
          arith,
          ints,
          monotone (rest.part k) (pos 0) (es n) (rest.low k (omega (arith, few, apart))) (omega (arith, ints, above n (omega arith))),
          *ℤ-zero (rest.part k),
        ))

    is : (rest : IsMultiple n es) (k : ℕ) → k < suc n → (k ≡ n) ⊎ (k ≡ n → ⊥) → (if k == n then rest.all else rest.part k *ℤ es n) *ℤ es k ≡ rest.all *ℤ es n
    is rest k few (inl same) = ap₂ (λ c m. (if c then rest.all else rest.part k *ℤ es n) *ℤ es m) (eq-eqb k n same) same
    is rest k few (inr apart) =
        ap (λ c. (if c then rest.all else rest.part k *ℤ es n) *ℤ es k) (ne_eqb k n apart)
        ∙ omega (
          arith,
          ints,
          assoc (rest.part k) (es n) (es k),
          exchange (rest.part k) (es n) (es k),
          ap (λ z. es n *ℤ z) (rest.is k (omega (arith, few, apart))),
          *ℤ_comm (es n) rest.all,
        )

-- Numbers at the columns that solve the rows now.
module _ (shape : Shape) (start t : Tableau) (reached_is : IsReached shape start t) (z : ℤ) (m : ℕ) (x : ℕ → ℤ)
    (each : (i : ℕ) → i < length t.rows → z *ℤ cell t i m +ℤ x i *ℤ cell t i (get_or t.basis i 0) ≡ pos 0) where
  pub columns_now : AllZero (on_columns z m x t.basis) t.rows
  columns_now =
      zero_each (on_columns z m x t.basis) t.rows
      (λ i within.
      let none : 0 + i ≡ i = omega arith in
      omega (
        arith,
        ints,
        on_basis_at x 0 t.basis (get_or t.rows i []) i (omega (arith, within, reached_is.basic.bases))
            (λ k few apart. reached_is.basic.apart i k within (omega (arith, few, reached_is.basic.bases)) (λ same. apart (sym same))),
        ap (λ n. x n *ℤ cell t i (get_or t.basis i 0)) none,
        each i within,
      ))

  pub columns_first : AllZero (on_columns z m x t.basis) start.rows
  columns_first = reached_is.follows.before (on_columns z m x t.basis) (on_columns_linear z m x t.basis) columns_now

  pub columns_z : on_columns z m x t.basis t.z ≡ z *ℤ entry t.z m
  columns_z = omega (arith, ints, on_basis_none x 0 t.basis t.z (λ i within. reached_is.basic.z_none i (omega (arith, within, reached_is.basic.bases))))

  pub columns_w : on_columns z m x t.basis t.w ≡ z *ℤ entry t.w m
  columns_w = omega (arith, ints, on_basis_none x 0 t.basis t.w (λ i within. reached_is.basic.w_none i (omega (arith, within, reached_is.basic.bases))))

-- What the first goal row weighs: the numbers at the artificial columns.
abbrev pub art : Tableau → ℕ → ℤ
art start m = entry start.w m +ℤ column_sum start.rows m

abbrev pub on_values : (ℕ → ℤ) → ℕ → List ℕ → (ℕ → ℤ) → ℤ
on_values x k [] g = pos 0
on_values x k (b ∷ bs) g = x k *ℤ g b +ℤ on_values x (suc k) bs g

values_are : (x : ℕ → ℤ) (k : ℕ) (basis : List ℕ) (row : List ℤ) → on_basis x k basis row ≡ on_values x k basis (entry row)
values_are x k [] row = refl
values_are x k (b ∷ bs) row = ap (λ z. x k *ℤ entry row b +ℤ z) (values_are x (suc k) bs row)

values_add : (x : ℕ → ℤ) (k : ℕ) (basis : List ℕ) (f g : ℕ → ℤ) → on_values x k basis (λ b. f b +ℤ g b) ≡ on_values x k basis f +ℤ on_values x k basis g
values_add x k [] f g = refl
values_add x k (b ∷ bs) f g = omega (arith, ints, spread_left (x k) (f b) (g b), values_add x (suc k) bs f g)

values_zero : (x : ℕ → ℤ) (k : ℕ) (basis : List ℕ) → on_values x k basis (λ b. pos 0) ≡ pos 0
values_zero x k [] = refl
values_zero x k (b ∷ bs) = omega (arith, ints, *ℤ-zero (x k), values_zero x (suc k) bs)

-- all rows that a functional doesn't see, seen column by column
columns_seen : (z : ℤ) (m : ℕ) (x : ℕ → ℤ) (basis : List ℕ) (rows : List (List ℤ)) → AllZero (on_columns z m x basis) rows
    → z *ℤ column_sum rows m +ℤ on_values x 0 basis (column_sum rows) ≡ pos 0
columns_seen z m x basis [] zeros = omega (arith, ints, *ℤ-zero z, values_zero x 0 basis)
columns_seen z m x basis (row ∷ rows) zeros =
    omega (
      arith,
      ints,
      zeros.0,
      values_are x 0 basis row,
      columns_seen z m x basis rows zeros.1,
      spread_left z (entry row m) (column_sum rows m),
      values_add x 0 basis (entry row) (column_sum rows),
    )

pub columns_art : (z : ℤ) (m : ℕ) (x : ℕ → ℤ) (basis : List ℕ) (start : Tableau) → AllZero (on_columns z m x basis) start.rows
    → on_columns z m x basis start.w ≡ z *ℤ art start m +ℤ on_values x 0 basis (art start)
columns_art z m x basis start zeros =
    omega (
      arith,
      ints,
      values_are x 0 basis start.w,
      columns_seen z m x basis start.rows zeros,
      spread_left z (entry start.w m) (column_sum start.rows m),
      values_add x 0 basis (entry start.w) (column_sum start.rows),
    )

pub values_some : (x : ℕ → ℤ) (k : ℕ) (basis : List ℕ) (g : ℕ → ℤ) → ((i : ℕ) → i < length basis → (pos 0 ≤ℤ x (k + i)) × (pos 0 ≤ℤ g (get_or basis i 0))) → pos 0 ≤ℤ on_values x k basis g
values_some x k [] g some = omega (arith, ints)
values_some x k (b ∷ bs) g some =
    let here : k + 0 ≡ k = omega arith in
    let first = some 0 (omega arith) in
    let low : pos 0 ≤ℤ x k = subst (λ (n : ℕ). pos 0 ≤ℤ x n) here first.0 in
    omega (
      arith,
      ints,
      monotone (x k) (pos 0) (g b) low first.1,
      *ℤ-zero (x k),
      values_some x (suc k) bs g (λ i within. let more : k + suc i ≡ suc k + i = omega arith in
          (subst (λ (n : ℕ). pos 0 ≤ℤ x n) more (some (suc i) (omega (arith, within))).0, (some (suc i) (omega (arith, within))).1)),
    )

-- where terms from 0 on come to nothing, each is 0
pub values_none : (x : ℕ → ℤ) (k : ℕ) (basis : List ℕ) (g : ℕ → ℤ) → ((i : ℕ) → i < length basis → (pos 0 ≤ℤ x (k + i)) × (pos 0 ≤ℤ g (get_or basis i 0))) → on_values x k basis g ≤ℤ pos 0
    → (i : ℕ) → i < length basis → x (k + i) *ℤ g (get_or basis i 0) ≡ pos 0
values_none x k [] g some most i within = absurd (omega arith)
values_none x k (b ∷ bs) g some most i within = by i within (λ low m few. values_none x (suc k) bs g later low m few)
  where
    here : k + 0 ≡ k
    here = omega arith

    later : (i : ℕ) → i < length bs → (pos 0 ≤ℤ x (suc k + i)) × (pos 0 ≤ℤ g (get_or bs i 0))
    later i few =
        let more : k + suc i ≡ suc k + i = omega arith in
        (subst (λ (n : ℕ). pos 0 ≤ℤ x n) more (some (suc i) (omega (arith, few))).0, (some (suc i) (omega (arith, few))).1)

    first : pos 0 ≤ℤ (x k *ℤ g b)
    first =
        let low : pos 0 ≤ℤ x k = subst (λ (n : ℕ). pos 0 ≤ℤ x n) here (some 0 (omega arith)).0 in
        omega (arith, ints, monotone (x k) (pos 0) (g b) low (some 0 (omega arith)).1, *ℤ-zero (x k))

    by : (i : ℕ) → i < suc (length bs) → (on_values x (suc k) bs g ≤ℤ pos 0 → (m : ℕ) → m < length bs → x (suc k + m) *ℤ g (get_or bs m 0) ≡ pos 0) → x (k + i) *ℤ g (get_or (b ∷ bs) i 0) ≡ pos 0
    by zero few go = ap (λ n. x n *ℤ g b) here ∙ omega (arith, ints, first, most, values_some x (suc k) bs g later)
    by (suc i) few go =
        let more : suc k + i ≡ k + suc i = omega arith in
        ap (λ n. x n *ℤ g (get_or bs i 0)) (sym more) ∙ go (omega (arith, ints, first, most)) i (omega arith)

-- the columns of the first tableau
module _ (shape : Shape) (count : ℕ) (start : Tableau) (is : IsStart shape count start) where
  unit_sum : (rows : List (List ℤ)) (i k : ℕ) → ((m : ℕ) → m < length rows → entry (get_or rows m []) (shape.real + k) ≡ one_if (k == i + m)) → i ≤ k → k < i + length rows → column_sum rows (shape.real + k) ≡ pos 1
  unit_sum [] i k units low high = absurd (omega (arith, low, high))
  unit_sum (row ∷ rows) i k units low high = by (cases_eq k i) (λ more. unit_sum rows (suc i) k next more (omega (arith, high)))
    where
      here : i + 0 ≡ i
      here = omega arith

      next : (m : ℕ) → m < length rows → entry (get_or rows m []) (shape.real + k) ≡ one_if (k == suc i + m)
      next m few =
          let more : i + suc m ≡ suc i + m = omega arith in
          subst (λ (n : ℕ). entry (get_or rows m []) (shape.real + k) ≡ one_if (k == n)) more (units (suc m) (omega (arith, few)))

      own : entry row (shape.real + k) ≡ one_if (k == i)
      own = subst (λ (n : ℕ). entry row (shape.real + k) ≡ one_if (k == n)) here (units 0 (omega arith))

      rest_none : (rows : List (List ℤ)) (n : ℕ) → ((m : ℕ) → m < length rows → entry (get_or rows m []) (shape.real + k) ≡ one_if (k == n + m)) → k < n → column_sum rows (shape.real + k) ≡ pos 0
      rest_none [] n all few = refl
      rest_none (r ∷ rs) n all few =
          let at : n + 0 ≡ n = omega arith in
          omega (
            arith,
            ints,
            subst (λ (m : ℕ). entry r (shape.real + k) ≡ one_if (k == m)) at (all 0 (omega arith)),
            ap one_if (ne_eqb k n (λ same. omega (arith, few, same))),
            rest_none rs (suc n) (λ m within. let more : n + suc m ≡ suc n + m = omega arith in
                subst (λ (p : ℕ). entry (get_or rs m []) (shape.real + k) ≡ one_if (k == p)) more (all (suc m) (omega (arith, within)))) (omega (arith, few)),
          )

      by : (k ≡ i) ⊎ (k ≡ i → ⊥) → (suc i ≤ k → column_sum rows (shape.real + k) ≡ pos 1) → entry row (shape.real + k) +ℤ column_sum rows (shape.real + k) ≡ pos 1
      by (inl same) go = omega (arith, ints, own, ap one_if (eq-eqb k i same), rest_none rows (suc i) next (omega (arith, same)))
      by (inr apart) go = omega (arith, ints, own, ap one_if (ne_eqb k i apart), go (omega (arith, low, apart)))

  pub art_real : (m : ℕ) → m < shape.real → art start m ≡ pos 0
  art_real m within = omega (arith, ints, is.sums m within)

  pub art_side : art start shape.right ≡ pos 0
  art_side = omega (arith, ints, is.sum_sides)

  pub art_one : (m : ℕ) → shape.real ≤ m → m < shape.right → art start m ≡ pos 1
  art_one m low high =
      let at : shape.real + (m - shape.real) ≡ m = omega (arith, low) in
      let few : m - shape.real < count = omega (arith, low, high, is.right) in
      let sum = unit_sum start.rows 0 (m - shape.real) (λ i within. let none : 0 + i ≡ i = omega arith in
      subst (λ (n : ℕ). cell start i (shape.real + (m - shape.real)) ≡ one_if (m - shape.real == n)) (sym none) (is.units i (m - shape.real) (omega (arith, within, is.counted)) few)) (omega arith)
      (omega (arith, few, is.counted)) in
      omega (arith, ints, ap (λ n. entry start.w n) (sym at), is.arts_w (m - shape.real) few, ap (column_sum start.rows) (sym at), sum)

  pub art_some : (m : ℕ) → m < shape.right → pos 0 ≤ℤ art start m
  art_some m within = by (nat_lt m shape.real) refl
    where
      by : (b : Bool) → nat_lt m shape.real ≡ b → pos 0 ≤ℤ art start m
      by true e =
          let real : m < shape.real = grind (arith, nat_tests) in
          omega (arith, ints, art_real m real)
      by false e =
          let far : shape.real ≤ m = grind (arith, nat_tests) in
          omega (arith, ints, art_one m far within)
