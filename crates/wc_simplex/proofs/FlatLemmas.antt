-- A row that leaves is always found, and at the first phase's end artificial columns count nothing.
use Rattle.std.proofs.Common.{◌≡◌, ℕ, zero, suc, ◌+◌, ◌-◌, ◌<◌, ◌≤◌, ◌==◌, nat_lt, ℤ, pos, negsuc, ◌+ℤ◌, ◌-ℤ◌, ◌*ℤ◌, neg_ℤ, ◌≤ℤ◌, ◌<ℤ◌, Bool, true, false, List, [], ◌∷◌, map, get_or, length, inl, inr, ◌⊎◌, refl, sym, ap, ap₂, subst, ◌∙◌, arith}
use Rattle.std.specs.Prelude.{IfSome, slice_get}
use Rattle.std.specs.List.{All}
use Rattle.std.proofs.Math.IntN.{*ℤ-zero, zero-*ℤ, *ℤ_comm}
use Rattle.std.proofs.lemmas.Bool.{cases_eq, eq-eqb, ne_eqb}
use Rattle.std.proofs.lemmas.Bool.Decides.{nat_tests}
use Rattle.std.proofs.lemmas.Int.{ints}
use Rattle.wc_base.specs.Sums.{chosen, sum_placed}
use Rattle.wc_base.proofs.Products.{assoc, cancel, exchange, monotone, neg_times, only_zero, spread, spread_left, times_neg, times_one}
use Rattle.wc_base.proofs.SumLemmas.{sum_same}
use Rattle.wc_dual.proofs.DualityLemmas.{certificates_bound}
use Rattle.wc_dual.specs.Laws.{HasPlaces}
use Rattle.wc_model.specs.declared.flow_system.System.{System}
use Rattle.wc_model.specs.declared.flow_system.SystemStep.{SystemStep}
use Rattle.wc_model.specs.Flow.Cells.{columns_of}
use Rattle.wc_model.specs.Flow.Certificates.{ArePrices, Prices, dual_value, scaled}
use Rattle.wc_model.specs.Flow.Counts.{IsFeasible, cycles, value_of}
use Rattle.wc_model.specs.Flow.RowMachine.{Shape, Tableau, cell, entry}
use Rattle.wc_model.specs.Flow.RowResults as results
use Rattle.wc_model.specs.Flow.Systems.{ArePlaces, IsSystem, named_by}
use Rattle.wc_model.specs.Flow.Tableaus.{Start}
use Rattle.wc_simplex.specs.Inner.Reached.{IsReached}
use Rattle.wc_simplex.specs.Solutions.{AllZero, weighs}
use Rattle.wc_simplex.proofs.BasisLemmas.{IsMultiple, art, art_one, art_real, art_side, art_some, at_basis, at_basis_none, at_basis_some, at_columns, columns_art, columns_first, columns_w, columns_z, multiple_of, on_columns, on_columns_linear, on_values, values_none, values_some, weighs_columns}
use Rattle.wc_simplex.proofs.BeginLemmas.{IsStart, IsStartOf}
use Rattle.wc_simplex.proofs.ChainLemmas.{IsOnFrom}
use Rattle.wc_simplex.proofs.ChoosingLemmas.{IsFlat}
use Rattle.wc_simplex.proofs.CountingLemmas.{IsCounts, counts_feasible, counts_value}
use Rattle.wc_simplex.proofs.GoalLemmas.{goal_follows}
use Rattle.wc_simplex.proofs.ReachLemmas.{AreLeftOut, IsReachedOut}
use Rattle.wc_simplex.proofs.StepLemmas.{above_is}
use Rattle.wc_simplex.proofs.WeighLemmas.{weighs_add, weighs_scale}

-- A column that enters with no entry above 0: the numbers along which the rows stay solved.
module _ (shape : Shape) (count : ℕ) (start t : Tableau) (is : IsStart shape count start) (reached_is : IsReached shape start t) (goal : List ℤ) (j : ℕ) (flat : IsFlat shape goal t j) where
  abbrev pub multiple : IsMultiple (length t.rows) (λ k. cell t k (get_or t.basis k 0))
  multiple = multiple_of (length t.rows) (λ k. cell t k (get_or t.basis k 0)) reached_is.above

  abbrev pub along : ℕ → ℤ
  along k = neg_ℤ (cell t k j *ℤ multiple.part k)

  pub along_some : (k : ℕ) → k < length t.rows → pos 0 ≤ℤ along k
  along_some k within = by (cell t k j) refl
    where
      low : cell t k j ≤ℤ pos 0 → pos 0 ≤ℤ along k
      low most =
          omega (
            arith,
            ints,
            monotone (multiple.part k) (cell t k j) (pos 0) (multiple.low k within) most,
            *ℤ-zero (multiple.part k),
            *ℤ_comm (multiple.part k) (cell t k j),
          )

      by : (v : ℤ) → cell t k j ≡ v → pos 0 ≤ℤ along k
      by (pos zero) e = low (omega (arith, ints, e))
      by (pos (suc n)) e = absurd (flat.flat k within (omega (arith, ints, e)))
      by (negsuc n) e = low (omega (arith, ints, e))

  pub along_each : (i : ℕ) → i < length t.rows → multiple.all *ℤ cell t i j +ℤ along i *ℤ cell t i (get_or t.basis i 0) ≡ pos 0
  along_each i within =
      omega (
        arith,
        ints,
        neg_times (cell t i j *ℤ multiple.part i) (cell t i (get_or t.basis i 0)),
        assoc (cell t i j) (multiple.part i) (cell t i (get_or t.basis i 0)),
        ap (λ z. cell t i j *ℤ z) (multiple.is i within),
        *ℤ_comm (cell t i j) multiple.all,
      )

  pub along_first : AllZero (on_columns multiple.all j along t.basis) start.rows
  along_first = columns_first shape start t reached_is multiple.all j along along_each

  -- it goes below 0 at the goal row
  pub along_below : (multiple.all *ℤ entry goal j) <ℤ pos 0
  along_below =
      omega (arith, ints, monotone multiple.all (entry goal j) (negsuc 0) (omega (arith, ints, multiple.whole)) (omega (arith, ints, flat.below)), minus multiple.all, multiple.whole)
    where
      minus : (a : ℤ) → a *ℤ negsuc 0 ≡ neg_ℤ a
      minus a = omega (arith, ints)

-- In the first phase.
pub first_never_flat : (shape : Shape) (count : ℕ) (start t : Tableau) → IsStart shape count start → IsReached shape start t → (j : ℕ) → IsFlat shape t.w t j → ⊥
first_never_flat shape count start t is reached_is j flat =
    let m = multiple_of (length t.rows) (λ k. cell t k (get_or t.basis k 0)) reached_is.above in
    let zeros = along_first shape count start t is reached_is t.w j flat in
    let follows = goal_follows shape count start is start.w t.w reached_is.follows.w_after is.own_w (on_columns m.all j (λ k. neg_ℤ (cell t k j *ℤ m.part k)) t.basis)
    (on_columns_linear m.all j (λ k. neg_ℤ (cell t k j *ℤ m.part k)) t.basis) zeros in
    let now = columns_w shape start t reached_is m.all j (λ k. neg_ℤ (cell t k j *ℤ m.part k)) (along_each shape count start t is reached_is t.w j flat) in
    let some = values_some (λ k. neg_ℤ (cell t k j *ℤ m.part k)) 0 t.basis (art start)
    (λ i within. let none : 0 + i ≡ i = omega arith in
    let few : i < length t.rows = omega (arith, within, reached_is.basic.bases) in
    (subst (λ (n : ℕ). pos 0 ≤ℤ neg_ℤ (cell t n j *ℤ m.part n)) (sym none) (along_some shape count start t is reached_is t.w j flat i few), art_some shape count start is (get_or t.basis i 0) (reached_is.basic.inside i few))) in
    let first : pos 0 ≤ℤ on_columns m.all j (λ k. neg_ℤ (cell t k j *ℤ m.part k)) t.basis start.w =
    omega (
      arith,
      ints,
      columns_art m.all j (λ k. neg_ℤ (cell t k j *ℤ m.part k)) t.basis start zeros,
      ap (λ z. m.all *ℤ z) (art_real shape count start is j flat.real),
      *ℤ-zero m.all,
      some,
    ) in
    omega (
      arith,
      ints,
      follows,
      now,
      along_below shape count start t is reached_is t.w j flat,
      monotone (on_columns m.all j (λ k. neg_ℤ (cell t k j *ℤ m.part k)) t.basis start.w) (pos 0) (entry t.w (suc shape.right)) first (omega (arith, ints, reached_is.follows.own_w)),
      *ℤ-zero (on_columns m.all j (λ k. neg_ℤ (cell t k j *ℤ m.part k)) t.basis start.w),
    )

-- The counts of the basis columns, over a denominator.
module _ (shape : Shape) (count : ℕ) (start t : Tableau) (is : IsStart shape count start) (reached_is : IsReached shape start t) (den : ℤ) (x : ℕ → ℤ)
    (solve : (k : ℕ) → k < length t.rows → x k *ℤ cell t k (get_or t.basis k 0) ≡ den *ℤ cell t k shape.right) where
  pub basic_each : (i : ℕ) → i < length t.rows → neg_ℤ den *ℤ cell t i shape.right +ℤ x i *ℤ cell t i (get_or t.basis i 0) ≡ pos 0
  basic_each i within = omega (arith, ints, neg_times den (cell t i shape.right), solve i within)

  pub basic_first : AllZero (on_columns (neg_ℤ den) shape.right x t.basis) start.rows
  basic_first = columns_first shape start t reached_is (neg_ℤ den) shape.right x basic_each

pub sides_none : (shape : Shape) (count : ℕ) (start t : Tableau) → IsStart shape count start → IsReached shape start t → pos 0 ≤ℤ entry t.w shape.right
    → (k : ℕ) → k < length t.rows → shape.real ≤ get_or t.basis k 0 → cell t k shape.right ≡ pos 0
sides_none shape count start t is reached_is most k within far =
    let m = multiple_of (length t.rows) (λ i. cell t i (get_or t.basis i 0)) reached_is.above in
    let solve : (i : ℕ) → i < length t.rows → (cell t i shape.right *ℤ m.part i) *ℤ cell t i (get_or t.basis i 0) ≡ m.all *ℤ cell t i shape.right =
    λ i few. assoc (cell t i shape.right) (m.part i) (cell t i (get_or t.basis i 0)) ∙ ap (λ z. cell t i shape.right *ℤ z) (m.is i few) ∙ *ℤ_comm (cell t i shape.right) m.all in
    let zeros = basic_first shape count start t is reached_is m.all (λ i. cell t i shape.right *ℤ m.part i) solve in
    let follows = goal_follows shape count start is start.w t.w reached_is.follows.w_after is.own_w (on_columns (neg_ℤ m.all) shape.right (λ i. cell t i shape.right *ℤ m.part i) t.basis)
    (on_columns_linear (neg_ℤ m.all) shape.right (λ i. cell t i shape.right *ℤ m.part i) t.basis) zeros in
    let now = columns_w shape start t reached_is (neg_ℤ m.all) shape.right (λ i. cell t i shape.right *ℤ m.part i)
    (basic_each shape count start t is reached_is m.all (λ i. cell t i shape.right *ℤ m.part i) solve) in
    let own = above_is (entry t.w (suc shape.right)) reached_is.follows.own_w in
    let value = columns_art (neg_ℤ m.all) shape.right (λ i. cell t i shape.right *ℤ m.part i) t.basis start zeros in
    let low : on_columns (neg_ℤ m.all) shape.right (λ i. cell t i shape.right *ℤ m.part i) t.basis start.w ≤ℤ pos 0 =
    cancel own.0 (on_columns (neg_ℤ m.all) shape.right (λ i. cell t i shape.right *ℤ m.part i) t.basis start.w) (pos 0)
    (subst (λ (o : ℤ). (o *ℤ on_columns (neg_ℤ m.all) shape.right (λ i. cell t i shape.right *ℤ m.part i) t.basis start.w) ≤ℤ (o *ℤ pos 0)) own.1
    (omega (
      arith,
      ints,
      follows,
      now,
      neg_times m.all (entry t.w shape.right),
      monotone m.all (pos 0) (entry t.w shape.right) (omega (arith, ints, m.whole)) most,
      *ℤ-zero m.all,
      *ℤ-zero (entry t.w (suc shape.right)),
      *ℤ_comm (entry t.w (suc shape.right)) (on_columns (neg_ℤ m.all) shape.right (λ i. cell t i shape.right *ℤ m.part i) t.basis start.w),
    ))) in
    let small : on_values (λ i. cell t i shape.right *ℤ m.part i) 0 t.basis (art start) ≤ℤ pos 0 =
    omega (arith, ints, low, value, ap (λ z. neg_ℤ m.all *ℤ z) (art_side shape count start is), *ℤ-zero (neg_ℤ m.all)) in
    let none : 0 + k ≡ k = omega arith in
    let term = values_none (λ i. cell t i shape.right *ℤ m.part i) 0 t.basis (art start)
    (λ i few. let same : 0 + i ≡ i = omega arith in
    let there : i < length t.rows = omega (arith, few, reached_is.basic.bases) in (
      subst (λ (n : ℕ). pos 0 ≤ℤ (cell t n shape.right *ℤ m.part n)) (sym same)
          (omega (arith, ints, monotone (cell t i shape.right) (pos 0) (m.part i) (reached_is.basic.sides i there) (m.low i there), *ℤ-zero (cell t i shape.right))),
      art_some shape count start is (get_or t.basis i 0) (reached_is.basic.inside i there),
    )) small k (omega (arith, within, reached_is.basic.bases)) in
    let all = above_is m.all m.whole in
    let zero_x : cell t k shape.right *ℤ m.part k ≡ pos 0 =
    omega (
      arith,
      ints,
      term,
      ap (λ n. (cell t n shape.right *ℤ m.part n) *ℤ art start (get_or t.basis k 0)) none,
      ap (λ z. (cell t k shape.right *ℤ m.part k) *ℤ z) (art_one shape count start is (get_or t.basis k 0) far (reached_is.basic.inside k within)),
      times_one (cell t k shape.right *ℤ m.part k),
    ) in
    only_zero all.0 (cell t k shape.right)
    (ap (λ a. a *ℤ cell t k shape.right) (sym all.1) ∙ sym (solve k within) ∙ ap (λ z. z *ℤ cell t k (get_or t.basis k 0)) zero_x ∙ zero-*ℤ (cell t k (get_or t.basis k 0)))

-- Numbers at the columns as counts.
module _ (start : Start) (count : ℕ) (t : Tableau) (is : IsStart start.shape count start.first) (out : IsReachedOut start.shape start.first t) where
  abbrev shape : Shape
  shape = start.shape

  real_right : start.shape.real ≤ start.shape.right
  real_right = omega (arith, is.right)

  weighs_first : (z : ℤ) (m : ℕ) (x : ℕ → ℤ) (rows : List (List ℤ)) → AllZero (on_columns z m x t.basis) rows → AllZero (weighs (at_columns z m x t.basis) 0) rows
  weighs_first z m x [] zeros = tt
  weighs_first z m x (row ∷ rows) zeros = (weighs_columns z m x t.basis row ∙ zeros.0, weighs_first z m x rows zeros.1)

  low_at : (m j : ℕ) (z : ℤ) → pos 0 ≤ℤ z ⊎ (m ≡ j → ⊥) → pos 0 ≤ℤ chosen (m == j) z
  low_at m j z (inr apart) = omega (arith, ints, ap (λ b. chosen b z) (ne_eqb m j apart))
  low_at m j z (inl low) = by (m == j)
    where
      by : (b : Bool) → pos 0 ≤ℤ chosen b z
      by true = low
      by false = omega (arith, ints)

  module _ (x : ℕ → ℤ) (some : (k : ℕ) → k < length t.rows → pos 0 ≤ℤ x k) (none : (k : ℕ) → k < length t.rows → start.shape.real ≤ get_or t.basis k 0 → x k ≡ pos 0) where
    x_some : (i : ℕ) → i < length t.basis → pos 0 ≤ℤ x (0 + i)
    x_some i within = let same : 0 + i ≡ i = omega arith in subst (λ (n : ℕ). pos 0 ≤ℤ x n) (sym same) (some i (omega (arith, within, out.0.basic.bases)))

    x_none : (j : ℕ) → start.shape.real ≤ j → (i : ℕ) → i < length t.basis → get_or t.basis i 0 ≡ j → x (0 + i) ≡ pos 0
    x_none j far i within at = let same : 0 + i ≡ i = omega arith in ap x same ∙ none i (omega (arith, within, out.0.basic.bases)) (omega (arith, far, at))

    pub basic_counts : (den : ℤ) → ((k : ℕ) → k < length t.rows → x k *ℤ cell t k (get_or t.basis k 0) ≡ den *ℤ cell t k start.shape.right)
        → IsCounts start den (at_columns (neg_ℤ den) start.shape.right x t.basis)
    basic_counts den solve =
        record {
          some = λ j within.
              omega (
                arith,
                ints,
                low_at start.shape.right j (neg_ℤ den) (inr (λ same. omega (arith, within, same, real_right))),
                at_basis_some x 0 t.basis j x_some,
              );
          arts = λ k within.
              omega (
                arith,
                ints,
                ap (λ b. chosen b (neg_ℤ den)) (ne_eqb start.shape.right (start.shape.real + k) (λ same. omega (arith, within, same))),
                at_basis_none x 0 t.basis (start.shape.real + k) (x_none (start.shape.real + k) (omega arith)),
              );
          side =
              omega (
                arith,
                ints,
                ap (λ b. chosen b (neg_ℤ den)) (eq-eqb start.shape.right start.shape.right refl),
                at_basis_none x 0 t.basis start.shape.right (x_none start.shape.right real_right),
              );
          own =
              omega (
                arith,
                ints,
                ap (λ b. chosen b (neg_ℤ den)) (ne_eqb start.shape.right (suc start.shape.right) (λ same. omega (arith, same))),
                at_basis_none x 0 t.basis (suc start.shape.right) (x_none (suc start.shape.right) (omega (arith, real_right))),
              );
          solves = weighs_first (neg_ℤ den) start.shape.right x start.first.rows (basic_first start.shape count start.first t is out.0 den x solve);
        }

    pub along_counts : (all : ℤ) (j : ℕ) → pos 0 ≤ℤ all → j < start.shape.real → ((i : ℕ) → i < length t.rows → all *ℤ cell t i j +ℤ x i *ℤ cell t i (get_or t.basis i 0) ≡ pos 0)
        → IsCounts start (pos 0) (at_columns all j x t.basis)
    along_counts all j low real each =
        record {
          some = λ i within. omega (arith, ints, low_at j i all (inl low), at_basis_some x 0 t.basis i x_some);
          arts = λ k within.
              omega (
                arith,
                ints,
                ap (λ b. chosen b all) (ne_eqb j (start.shape.real + k) (λ same. omega (arith, real, same))),
                at_basis_none x 0 t.basis (start.shape.real + k) (x_none (start.shape.real + k) (omega arith)),
              );
          side =
              omega (
                arith,
                ints,
                ap (λ b. chosen b all) (ne_eqb j start.shape.right (λ same. omega (arith, real, same, real_right))),
                at_basis_none x 0 t.basis start.shape.right (x_none start.shape.right real_right),
              );
          own =
              omega (
                arith,
                ints,
                ap (λ b. chosen b all) (ne_eqb j (suc start.shape.right) (λ same. omega (arith, real, same, real_right))),
                at_basis_none x 0 t.basis (suc start.shape.right) (x_none (suc start.shape.right) (omega (arith, real_right))),
              );
          solves = weighs_first all j x start.first.rows (columns_first start.shape start.first t out.0 all j x each);
        }

-- counts and more and more of a direction
counts_more : (start : Start) (den : ℤ) (a b : ℕ → ℤ) (n : ℕ) → IsCounts start den a → IsCounts start (pos 0) b → IsCounts start den (λ j. a j +ℤ pos n *ℤ b j)
counts_more start den a b n first more =
    record {
      some = λ j within. omega (arith, ints, first.some j within, monotone (pos n) (pos 0) (b j) (omega (arith, ints)) (more.some j within), *ℤ-zero (pos n));
      arts = λ k within. omega (arith, ints, first.arts k within, ap (λ z. pos n *ℤ z) (more.arts k within), *ℤ-zero (pos n));
      side = omega (arith, ints, first.side, ap (λ z. pos n *ℤ z) more.side, *ℤ-zero (pos n));
      own = omega (arith, ints, first.own, ap (λ z. pos n *ℤ z) more.own, *ℤ-zero (pos n));
      solves = rows start.first.rows first.solves more.solves;
    }
  where
    rows : (rows : List (List ℤ)) → AllZero (weighs a 0) rows → AllZero (weighs b 0) rows → AllZero (weighs (λ j. a j +ℤ pos n *ℤ b j) 0) rows
    rows [] p q = tt
    rows (row ∷ later) p q =
        (omega (arith, ints, weighs_add a (λ j. pos n *ℤ b j) 0 row, weighs_scale (pos n) b 0 row, p.0, ap (λ z. pos n *ℤ z) q.0, *ℤ-zero (pos n)), rows later p.1 q.1)

has_places : (s : System) → IsSystem s → HasPlaces s
has_places s sound =
    record {
      start = sound.start;
      sources = sound.sources;
      targets = sound.targets;
      backs = λ i d within. (sound.loops i d within).back;
      entries = λ i d within. (sound.loops i d within).entry;
      limits = sound.limits;
    }

-- In the second phase, since potentials meet the line on steps.
pub second_never_flat : (s : System) → IsSystem s → ((k : ℕ) → k < length s.steps → IsOnFrom s k) → (prices : Prices) → ArePrices s (scaled (pos 1)) prices
    → (start : Start) (of : IsStartOf s (columns_of s) start) (t : Tableau) → IsReachedOut start.shape start.first t → (j : ℕ) → IsFlat start.shape t.z t j → ⊥
second_never_flat s sound each prices priced start of t out j flat =
    let m = multiple_of (length t.rows) (λ k. cell t k (get_or t.basis k 0)) out.0.above in
    let solve : (i : ℕ) → i < length t.rows → (cell t i start.shape.right *ℤ m.part i) *ℤ cell t i (get_or t.basis i 0) ≡ m.all *ℤ cell t i start.shape.right =
    λ i few. assoc (cell t i start.shape.right) (m.part i) (cell t i (get_or t.basis i 0)) ∙ ap (λ z. cell t i start.shape.right *ℤ z) (m.is i few) ∙ *ℤ_comm (cell t i start.shape.right) m.all in
    let basic = basic_counts start (length of.hs) t of.is out (λ i. cell t i start.shape.right *ℤ m.part i)
    (λ k few. omega (arith, ints, monotone (cell t k start.shape.right) (pos 0) (m.part k) (out.0.basic.sides k few) (m.low k few), *ℤ-zero (cell t k start.shape.right)))
    (λ k few far. ap (λ z. z *ℤ m.part k) (out.1 k few far).0 ∙ zero-*ℤ (m.part k)) m.all solve in
    let along = along_counts start (length of.hs) t of.is out (λ k. neg_ℤ (cell t k j *ℤ m.part k)) (along_some start.shape (length of.hs) start.first t of.is out.0 t.z j flat)
    (λ k few far. omega (arith, ints, ap (λ z. z *ℤ m.part k) ((out.1 k few far).1 j flat.real), zero-*ℤ (m.part k))) m.all j (omega (arith, ints, m.whole)) flat.real
    (along_each start.shape (length of.hs) start.first t of.is out.0 t.z j flat) in
    endless m.all m.whole (at_columns (neg_ℤ m.all) start.shape.right (λ i. cell t i start.shape.right *ℤ m.part i) t.basis) (at_columns m.all j (λ k. neg_ℤ (cell t k j *ℤ m.part k)) t.basis) basic along
    (gains m.all (weighs (at_columns m.all j (λ k. neg_ℤ (cell t k j *ℤ m.part k)) t.basis) 0 start.first.z) (entry t.z (suc start.shape.right)) (entry t.z j)
    (weighs_columns m.all j (λ k. neg_ℤ (cell t k j *ℤ m.part k)) t.basis start.first.z) out.0.follows.own_z (along_below start.shape (length of.hs) start.first t of.is out.0 t.z j flat)
    (goal_follows start.shape (length of.hs) start.first of.is start.first.z t.z out.0.follows.z_after of.is.own_z (on_columns m.all j (λ k. neg_ℤ (cell t k j *ℤ m.part k)) t.basis)
    (on_columns_linear m.all j (λ k. neg_ℤ (cell t k j *ℤ m.part k)) t.basis) (along_first start.shape (length of.hs) start.first t of.is out.0 t.z j flat))
    (columns_z start.shape start.first t out.0 m.all j (λ k. neg_ℤ (cell t k j *ℤ m.part k)) (along_each start.shape (length of.hs) start.first t of.is out.0 t.z j flat)))
  where
    -- the direction is worth something
    gains : (all weight own here : ℤ) {f g : ℤ} → weight ≡ f → pos 0 <ℤ own → (all *ℤ here) <ℤ pos 0 → g ≡ f *ℤ own → g ≡ all *ℤ here → weight <ℤ pos 0
    gains all weight own here {f} {g} is_f above below follows now = by f is_f follows
      where
        by : (v : ℤ) → weight ≡ v → g ≡ v *ℤ own → weight <ℤ pos 0
        by (pos n) p q =
            let low = monotone (pos n) (pos 0) own (omega (arith, ints)) (omega (arith, ints, above)) in
            absurd (omega (arith, ints, low, q, now, below, *ℤ-zero (pos n)))
        by (negsuc n) p q = omega (arith, ints, p)

    one_value : (x : ℕ → ℤ) → value_of (scaled (pos 1)) s.steps x ≡ value_of cycles s.steps x
    one_value x = sum_same (λ i t. scaled (pos 1) t *ℤ x i) (λ i t. cycles t *ℤ x i) s.steps (λ i t at. ap (λ z. z *ℤ x i) (times_one (cycles t)))

    -- no number of times is too many
    bounded : (den : ℤ) → pos 0 <ℤ den → (c : ℕ → ℤ) → IsCounts start den c → neg_ℤ (weighs c 0 start.first.z) ≤ℤ (den *ℤ dual_value s prices)
    bounded den whole c counts =
        let feasible = counts_feasible s sound each start of den c counts whole in
        omega (
          arith,
          ints,
          counts_value s sound each start of den c counts,
          one_value (λ i. c (results.column_of i 0 (columns_of s))),
          certificates_bound s (scaled (pos 1)) prices den (λ i. c (results.column_of i 0 (columns_of s))) (has_places s sound) priced feasible,
        )

    endless : (den : ℤ) → pos 0 <ℤ den → (a b : ℕ → ℤ) → IsCounts start den a → IsCounts start (pos 0) b → weighs b 0 start.first.z <ℤ pos 0 → ⊥
    endless den whole a b first more below = by (den *ℤ dual_value s prices +ℤ weighs a 0 start.first.z +ℤ pos 1) refl
      where
        times : (n : ℕ) → neg_ℤ (weighs a 0 start.first.z +ℤ pos n *ℤ weighs b 0 start.first.z) ≤ℤ (den *ℤ dual_value s prices)
        times n =
            subst (λ (z : ℤ). neg_ℤ z ≤ℤ (den *ℤ dual_value s prices))
            (weighs_add a (λ j. pos n *ℤ b j) 0 start.first.z ∙ ap (λ z. weighs a 0 start.first.z +ℤ z) (weighs_scale (pos n) b 0 start.first.z))
            (bounded den whole (λ j. a j +ℤ pos n *ℤ b j) (counts_more start den a b n first more))

        falls : (n : ℕ) → (pos n *ℤ weighs b 0 start.first.z) ≤ℤ neg_ℤ (pos n)
        falls n = omega (arith, ints, monotone (pos n) (weighs b 0 start.first.z) (negsuc 0) (omega (arith, ints)) (omega (arith, ints, below)), minus (pos n))
          where
            minus : (x : ℤ) → x *ℤ negsuc 0 ≡ neg_ℤ x
            minus x = omega (arith, ints)

        by : (z : ℤ) → den *ℤ dual_value s prices +ℤ weighs a 0 start.first.z +ℤ pos 1 ≡ z → ⊥
        by (pos n) e = omega (arith, ints, e, times n, falls n)
        by (negsuc n) e = omega (arith, ints, e, times 0, falls 0)
