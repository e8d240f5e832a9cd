-- What phases reach, and what is reached where the artificial columns leave the basis.
use Rattle.std.proofs.Common.{◌≡◌, ℕ, zero, suc, ◌+◌, ◌-◌, ◌<◌, ◌≤◌, nat_lt, ℤ, pos, negsuc, ◌+ℤ◌, ◌-ℤ◌, ◌*ℤ◌, neg_ℤ, ◌≤ℤ◌, ◌<ℤ◌, Bool, true, false, not, if◌then◌else◌, List, [], ◌∷◌, map, get_or, set, take, length, inl, inr, ◌⊎◌, ⊎_elim, Option, None, Some, option_and_then, option_map, refl, sym, ap, ap₂, subst, ◌∙◌, arith}
use Rattle.std.proofs.Math.IntN.{*ℤ-zero, zero-*ℤ}
use Rattle.std.proofs.lemmas.Bool.{cases_eq}
use Rattle.std.proofs.lemmas.Bool.Decides.{nat_tests}
use Rattle.std.proofs.lemmas.Int.{ints}
use Rattle.std.proofs.lemmas.List.{get_or-set_other, get_or-set_same, get_or-take, length-set, length-take}
use Rattle.std.proofs.lemmas.Option.{same_Some}
use Rattle.wc_base.proofs.Products.{monotone, only_zero}
use Rattle.wc_model.specs.Flow.Exact.{each_of, negate_exact}
use Rattle.wc_model.specs.Flow.RowMachine.{Choice, Ending, Shape, Tableau, after_choice, after_pivot, cell, choice, driven, driven_at, entering, entry, finished, goal_row, is_negative, is_real, is_zero, no_row, number_limit, phase, pivot_limit, pivoted, pivots, place_from, reached, too_wide, turned, unbounded, with_row}
use Rattle.wc_simplex.specs.Inner.Reached.{AreAbove, Follows, HaveWidth, IsAbove, IsBasic, IsLeast, IsLeftOut, IsLinear, IsReached}
use Rattle.wc_simplex.specs.Solutions.{AllZero}
use Rattle.wc_simplex.proofs.ChoosingLemmas.{IsFlat, IsPivotOf, chosen_flat, chosen_none, chosen_pivot, negative_below, not_negative, same_or_before}
use Rattle.wc_simplex.proofs.FunctionalLemmas.{entry_linear}
use Rattle.wc_simplex.proofs.PivotLemmas.{basis_other, basis_same, other, pivot_above, pivot_basic, pivot_follows, same_count, stays, zero_each}
use Rattle.wc_simplex.proofs.SolutionLemmas.{zero_at}
use Rattle.wc_simplex.proofs.StepLemmas.{keeps_flat, keeps_none}
use Rattle.wc_simplex.proofs.TurningLemmas.{found_passes, negated_entry, negated_parts, negated_width, set_wide}

-- A phase, for whatever its pivots keep.
module _ (P : Tableau → Type 0) (first : Bool) (shape : Shape) where
  abbrev pub PhaseEnd : Ending → Type 0
  PhaseEnd (reached n u) = P u × (entering shape (goal_row first u) ≡ None)
  PhaseEnd number_limit = Unit {0}
  PhaseEnd pivot_limit = Unit {0}
  PhaseEnd unbounded = (u : Tableau) × P u × ((j : ℕ) × IsFlat shape (goal_row first u) u j)

  abbrev pub PivotsKeep : Type 0
  PivotsKeep = (t u : Tableau) (r j : ℕ) → P t → IsPivotOf shape (goal_row first t) t r j → pivoted r j t ≡ Some u → P u

  pub phase_end : PivotsKeep → (left : ℕ) (t : Tableau) → P t → PhaseEnd (phase first shape left t)
  unfolding phase
  phase_end keep zero t here = by (choice shape (goal_row first t) t) refl
    where
      by : (c : Choice) → choice shape (goal_row first t) t ≡ c → PhaseEnd (after_choice (reached 0 t) (λ r j. pivot_limit) c)
      by finished is = (here, chosen_none shape (goal_row first t) t is)
      by too_wide is = tt
      by (no_row j) is = (t, here, (j, chosen_flat shape (goal_row first t) t j is))
      by (pivots r j) is = tt
  phase_end keep (suc left) t here = by (choice shape (goal_row first t) t) refl (λ u there. phase_end keep left u there)
    where
      pivot : (r j : ℕ) → IsPivotOf shape (goal_row first t) t r j → (o : Option Tableau) → pivoted r j t ≡ o → ((u : Tableau) → P u → PhaseEnd (phase first shape left u)) → PhaseEnd (after_pivot (phase first shape left) o)
      pivot r j of None is go = tt
      pivot r j of (Some u) is go = go u (keep t u r j here of is)

      by : (c : Choice) → choice shape (goal_row first t) t ≡ c → ((u : Tableau) → P u → PhaseEnd (phase first shape left u))
          → PhaseEnd (after_choice (reached (suc left) t) (λ r j. after_pivot (phase first shape left) (pivoted r j t)) c)
      by finished is go = (here, chosen_none shape (goal_row first t) t is)
      by too_wide is go = tt
      by (no_row j) is go = (t, here, (j, chosen_flat shape (goal_row first t) t j is))
      by (pivots r j) is go = pivot r j (chosen_pivot shape (goal_row first t) t r j is) (pivoted r j t) refl go

-- a chosen pivot
pub reached_pivot : (shape : Shape) (start t u : Tableau) (goal : List ℤ) (r j : ℕ) → shape.real ≤ shape.right → IsReached shape start t → IsPivotOf shape goal t r j → pivoted r j t ≡ Some u → IsReached shape start u
reached_pivot shape start t u goal r j few here of is =
    record {
      basic = pivot_basic shape r j start t u here.basic here.follows of.there of.above is (omega (arith, of.real, few)) of.least;
      above = pivot_above shape r j start t u here.basic here.follows of.there of.above is (λ k within apart. here.above k within);
      follows = pivot_follows shape r j start t u here.basic here.follows of.there of.above is;
    }

abbrev pub AreLeftOut : Shape → Tableau → Type 0
AreLeftOut shape t = (k : ℕ) → k < length t.rows → shape.real ≤ get_or t.basis k 0 → IsLeftOut shape t k

abbrev pub IsReachedOut : Shape → Tableau → Tableau → Type 0
IsReachedOut shape start t = IsReached shape start t × AreLeftOut shape t

pub out_pivot : (shape : Shape) (start t u : Tableau) (goal : List ℤ) (r j : ℕ) → shape.real ≤ shape.right → IsReachedOut shape start t → IsPivotOf shape goal t r j → pivoted r j t ≡ Some u → IsReachedOut shape start u
out_pivot shape start t u goal r j few here of is =
    (reached_pivot shape start t u goal r j few here.0 of is, λ k within_u far. by k within_u far (cases_eq k r))
  where
    basic : IsBasic shape t
    basic = here.0.basic

    follows : Follows shape start t
    follows = here.0.follows

    count : length u.rows ≡ length t.rows
    count = same_count shape r j start t u basic follows of.there of.above is

    by : (k : ℕ) → k < length u.rows → shape.real ≤ get_or u.basis k 0 → (k ≡ r) ⊎ (k ≡ r → ⊥) → IsLeftOut shape u k
    by k within_u far (inl same) =
        absurd (omega (arith, of.real, far, ap (λ n. get_or u.basis n 0) same, basis_same shape r j start t u basic follows of.there of.above is))
    by k within_u far (inr apart) =
        let within : k < length t.rows = omega (arith, within_u, count) in
        let out = here.1 k within (omega (arith, far, basis_other shape r j start t u basic follows of.there of.above is k apart)) in
        let red = other shape r j start t u basic follows of.there of.above is k within apart in (
          keeps_flat j (get_or t.rows k []) (get_or t.rows r []) (get_or u.rows k []) red (λ row. entry row shape.right) (entry_linear shape.right) (out.1 j of.real) out.0,
          λ m real. keeps_flat j (get_or t.rows k []) (get_or t.rows r []) (get_or u.rows k []) red (λ row. entry row m) (entry_linear m) (out.1 j of.real) (out.1 m real),
        )

-- A row is negated.
negated_map : (row new : List ℤ) → each_of negate_exact row ≡ Some new → new ≡ map (λ x. negsuc 0 *ℤ x) row
negated_map [] new is = sym (same_Some [] new is)
negated_map (x ∷ xs) new is =
    let parts = negated_parts x xs new is in
    parts.whole ∙ ap₂ (λ y ys. y ∷ ys) (minus x) (negated_map xs parts.tail parts.later)
  where
    minus : (x : ℤ) → neg_ℤ x ≡ negsuc 0 *ℤ x
    minus x = omega (arith, ints)

pub negated_functional : (f : List ℤ → ℤ) → IsLinear f → (row new : List ℤ) → each_of negate_exact row ≡ Some new → f new ≡ neg_ℤ (f row)
negated_functional f lf row new is = ap f (negated_map row new is) ∙ lf.times (negsuc 0) row ∙ minus (f row)
  where
    minus : (x : ℤ) → negsuc 0 *ℤ x ≡ neg_ℤ x
    minus x = omega (arith, ints)

-- what a tableau with a turned row keeps
pub record IsTurned (shape : Shape) (start : Tableau) (i j : ℕ) (t u : Tableau) : Type 0 where
  pub basic : IsBasic shape u
  pub follows : Follows shape start u
  pub above : pos 0 <ℤ cell u i j
  pub count : length u.rows ≡ length t.rows
  pub basis : u.basis ≡ t.basis
  pub others : (k : ℕ) → (k ≡ i → ⊥) → get_or u.rows k [] ≡ get_or t.rows k []
  pub side : cell u i shape.right ≡ pos 0

neither : (x : ℤ) → is_negative x ≡ false → not (is_zero x) ≡ true → pos 0 <ℤ x
neither (pos zero) a b = absurd (cc)
neither (pos (suc n)) a b = omega (arith, ints)
neither (negsuc n) a b = absurd (cc)

module _ (shape : Shape) (start : Tableau) (i j : ℕ) (t u : Tableau) (here : IsReached shape start t) (there : i < length t.rows) (none : cell t i shape.right ≡ pos 0) (some : not (is_zero (cell t i j)) ≡ true) where
  turns_new : (new : List ℤ) → each_of negate_exact (get_or t.rows i []) ≡ Some new → is_negative (cell t i j) ≡ true → with_row t i new ≡ u → IsTurned shape start i j t u
  turns_new new is below same =
      record {
        basic =
            record {
              bases = ap length basis ∙ here.basic.bases ∙ sym count;
              inside = λ k within. subst (λ (l : List ℕ). get_or l k 0 < shape.right) (sym basis) (here.basic.inside k (omega (arith, within, count)));
              apart = λ m k within_m within_k apart.
                  ap (λ (l : List ℕ). cell u m (get_or l k 0)) basis
                  ∙ at (λ row. entry row (get_or t.basis k 0)) (entry_linear (get_or t.basis k 0)) m (here.basic.apart m k (omega (arith, within_m, count)) (omega (arith, within_k, count)) apart);
              z_none = λ k within. ap₂ (λ (l : List ℕ) (z : List ℤ). entry z (get_or l k 0)) basis (ap (λ (x : Tableau). x.z) (sym same)) ∙ here.basic.z_none k (omega (arith, within, count));
              w_none = λ k within. ap₂ (λ (l : List ℕ) (w : List ℤ). entry w (get_or l k 0)) basis (ap (λ (x : Tableau). x.w) (sym same)) ∙ here.basic.w_none k (omega (arith, within, count));
              sides = λ k within.
                  ⊎_elim (λ (e : k ≡ i). omega (arith, ints, ap (λ n. cell u n shape.right) e, side))
                  (λ (apart : k ≡ i → ⊥). subst (λ (row : List ℤ). pos 0 ≤ℤ entry row shape.right) (sym (others k apart)) (here.basic.sides k (omega (arith, within, count)))) (cases_eq k i);
            };
        follows =
            record {
              count = count ∙ here.follows.count;
              wide = subst (λ (l : List (List ℤ)). HaveWidth (shape.right + 2) l) rows (set_wide (shape.right + 2) t.rows i new here.follows.wide (negated_width (get_or t.rows i []) new is));
              wide_z = ap (λ (x : Tableau). length x.z) (sym same) ∙ here.follows.wide_z;
              wide_w = ap (λ (x : Tableau). length x.w) (sym same) ∙ here.follows.wide_w;
              after = λ f lf zeros. after f lf (here.follows.after f lf zeros);
              before = λ f lf zeros. here.follows.before f lf (before f lf zeros);
              z_after = λ f lf zeros zero_z. ap (λ (x : Tableau). f x.z) (sym same) ∙ here.follows.z_after f lf zeros zero_z;
              w_after = λ f lf zeros zero_w. ap (λ (x : Tableau). f x.w) (sym same) ∙ here.follows.w_after f lf zeros zero_w;
              own = after (λ row. entry row (suc shape.right)) (entry_linear (suc shape.right)) here.follows.own;
              own_z = subst (λ (x : Tableau). pos 0 <ℤ entry x.z (suc shape.right)) same here.follows.own_z;
              own_w = subst (λ (x : Tableau). pos 0 <ℤ entry x.w (suc shape.right)) same here.follows.own_w;
            };
        above =
            omega (arith, ints, negative_below (cell t i j) below, ap (λ row. entry row j) own_row, negated_functional (λ row. entry row j) (entry_linear j) (get_or t.rows i []) new is);
        count = count;
        basis = basis;
        others = others;
        side = side;
      }
    where
      rows : set t.rows i new ≡ u.rows
      rows = ap (λ (x : Tableau). x.rows) same

      basis : u.basis ≡ t.basis
      basis = ap (λ (x : Tableau). x.basis) (sym same)

      count : length u.rows ≡ length t.rows
      count = ap length (sym rows) ∙ length-set t.rows i new

      own_row : get_or u.rows i [] ≡ new
      own_row = ap (λ (l : List (List ℤ)). get_or l i []) (sym rows) ∙ get_or-set_same t.rows i new [] there

      others : (k : ℕ) → (k ≡ i → ⊥) → get_or u.rows k [] ≡ get_or t.rows k []
      others k apart = ap (λ (l : List (List ℤ)). get_or l k []) (sym rows) ∙ get_or-set_other t.rows i k new [] apart

      at : (f : List ℤ → ℤ) → IsLinear f → (k : ℕ) → f (get_or t.rows k []) ≡ pos 0 → f (get_or u.rows k []) ≡ pos 0
      at f lf k zero_k =
          ⊎_elim
          (λ (e : k ≡ i). omega (arith, ints, ap (λ n. f (get_or u.rows n [])) e, ap f own_row, negated_functional f lf (get_or t.rows i []) new is, ap (λ n. f (get_or t.rows n [])) e, zero_k))
          (λ (apart : k ≡ i → ⊥). ap f (others k apart) ∙ zero_k) (cases_eq k i)

      back : (f : List ℤ → ℤ) → IsLinear f → (k : ℕ) → f (get_or u.rows k []) ≡ pos 0 → f (get_or t.rows k []) ≡ pos 0
      back f lf k zero_k =
          ⊎_elim
          (λ (e : k ≡ i). omega (arith, ints, ap (λ n. f (get_or u.rows n [])) e, ap f own_row, negated_functional f lf (get_or t.rows i []) new is, ap (λ n. f (get_or t.rows n [])) e, zero_k))
          (λ (apart : k ≡ i → ⊥). ap f (sym (others k apart)) ∙ zero_k) (cases_eq k i)

      after : (f : List ℤ → ℤ) → IsLinear f → AllZero f t.rows → AllZero f u.rows
      after f lf zeros = zero_each f u.rows (λ k within. at f lf k (zero_at f t.rows k zeros (omega (arith, within, count))))

      before : (f : List ℤ → ℤ) → IsLinear f → AllZero f u.rows → AllZero f t.rows
      before f lf zeros = zero_each f t.rows (λ k within. back f lf k (zero_at f u.rows k zeros (omega (arith, within, count))))

      side : cell u i shape.right ≡ pos 0
      side = at (λ row. entry row shape.right) (entry_linear shape.right) i none

  pub turns : turned i j t ≡ Some u → IsTurned shape start i j t u
  turns is = by (is_negative (cell t i j)) refl (each_of negate_exact (get_or t.rows i [])) refl is
    where
      by : (b : Bool) → is_negative (cell t i j) ≡ b → (o : Option (List ℤ)) → each_of negate_exact (get_or t.rows i []) ≡ o
          → (if b then option_map (with_row t i) o else Some t) ≡ Some u → IsTurned shape start i j t u
      by true below None p e = absurd (cc)
      by true below (Some new) p e = turns_new new p below (same_Some (with_row t i new) u e)
      by false above o p e =
          subst (λ (x : Tableau). IsTurned shape start i j t x) (same_Some t u e)
          (record { basic = here.basic; follows = here.follows; above = neither (cell t i j) above some; count = refl; basis = refl; others = λ k apart. refl; side = none })

-- Artificial columns leave the basis: the rows before `i` are done.
pub record IsDriven (shape : Shape) (start : Tableau) (i : ℕ) (t : Tableau) : Type 0 where
  pub reached_is : IsReached shape start t
  pub none : (k : ℕ) → k < length t.rows → shape.real ≤ get_or t.basis k 0 → cell t k shape.right ≡ pos 0
  pub out : (k : ℕ) → k < i → k < length t.rows → shape.real ≤ get_or t.basis k 0 → (m : ℕ) → m < shape.real → cell t k m ≡ pos 0

none_zero : (i : ℕ) (xs : List ℤ) (m : ℕ) → place_from (λ x. not (is_zero x)) i xs ≡ None → get_or xs m (pos 0) ≡ pos 0
none_zero i [] m is = refl
none_zero i (x ∷ xs) m is = by x refl is m (λ n e. none_zero (i + 1) xs n e)
  where
    by : (y : ℤ) → x ≡ y → (if not (is_zero y) then Some i else place_from (λ x. not (is_zero x)) (i + 1) xs) ≡ None → (m : ℕ)
        → ((n : ℕ) → place_from (λ x. not (is_zero x)) (i + 1) xs ≡ None → get_or xs n (pos 0) ≡ pos 0) → get_or (x ∷ xs) m (pos 0) ≡ pos 0
    by (pos zero) same e zero go = same
    by (pos zero) same e (suc m) go = go m e
    by (pos (suc n)) same e m go = absurd (cc)
    by (negsuc n) same e m go = absurd (cc)

found_column : (shape : Shape) (row : List ℤ) (j : ℕ) → place_from (λ x. not (is_zero x)) 0 (take shape.real row) ≡ Some j → (j < shape.real) × (not (is_zero (entry row j)) ≡ true)
found_column shape row j is =
    let found = found_passes (λ x. not (is_zero x)) 0 (take shape.real row) j is in
    let same : j - 0 ≡ j = omega arith in
    let within : j < shape.real = omega (arith, found.2, length-take shape.real row) in
    (within, ap (λ x. not (is_zero x)) (sym (get_or-take shape.real row j (pos 0) within)) ∙ ap (λ n. not (is_zero (get_or (take shape.real row) n (pos 0)))) (sym same) ∙ found.1)

module _ (shape : Shape) (start : Tableau) (few : shape.real ≤ shape.right) where
  abbrev pub DrivenEnd : Ending → Type 0
  DrivenEnd (reached n u) = IsReachedOut shape start u
  DrivenEnd number_limit = Unit {0}
  DrivenEnd pivot_limit = Unit {0}
  DrivenEnd unbounded = ⊥

  passes : (i : ℕ) (t : Tableau) → (shape.real ≤ get_or t.basis i 0 → (m : ℕ) → m < shape.real → cell t i m ≡ pos 0) → IsDriven shape start i t → IsDriven shape start (i + 1) t
  passes i t none here =
      record {
        reached_is = here.reached_is;
        none = here.none;
        out = λ k before within far m in_real. by k within far m in_real (same_or_before k i before);
      }
    where
      by : (k : ℕ) → k < length t.rows → shape.real ≤ get_or t.basis k 0 → (m : ℕ) → m < shape.real → (k < i) ⊎ (k ≡ i) → cell t k m ≡ pos 0
      by k within far m in_real (inl earlier) = here.out k earlier within far m in_real
      by k within far m in_real (inr same) = ap (λ n. cell t n m) same ∙ none (subst (λ n. shape.real ≤ get_or t.basis n 0) same far) m in_real

  real_passes : (i : ℕ) (t : Tableau) → get_or t.basis i 0 < shape.real → IsDriven shape start i t → IsDriven shape start (i + 1) t
  real_passes i t real here = passes i t (λ far m in_real. absurd (omega (arith, real, far))) here

  zero_passes : (i : ℕ) (t : Tableau) → place_from (λ x. not (is_zero x)) 0 (take shape.real (get_or t.rows i [])) ≡ None → IsDriven shape start i t → IsDriven shape start (i + 1) t
  zero_passes i t is here = passes i t (λ far m in_real. sym (get_or-take shape.real (get_or t.rows i []) m (pos 0) in_real) ∙ none_zero 0 (take shape.real (get_or t.rows i [])) m is) here

  -- the row is turned, and the column takes its basis
  pivot_passes : (i j : ℕ) (t mid u : Tableau) → i < length t.rows → shape.real ≤ get_or t.basis i 0 → j < shape.real → not (is_zero (cell t i j)) ≡ true
      → IsDriven shape start i t → turned i j t ≡ Some mid → pivoted i j mid ≡ Some u → IsDriven shape start (i + 1) u
  pivot_passes i j t mid u there far real some here is_turned is =
      record {
        reached_is =
            record {
              basic = pivot_basic shape i j start mid u turn.basic turn.follows there_mid turn.above is (omega (arith, real, few)) least;
              above = pivot_above shape i j start mid u turn.basic turn.follows there_mid turn.above is (λ k within apart.
                  subst (λ (l : List ℕ). pos 0 <ℤ cell mid k (get_or l k 0)) (sym turn.basis)
                  (subst (λ (row : List ℤ). pos 0 <ℤ entry row (get_or t.basis k 0)) (sym (turn.others k apart)) (here.reached_is.above k (omega (arith, within, turn.count)))));
              follows = pivot_follows shape i j start mid u turn.basic turn.follows there_mid turn.above is;
            };
        none = λ k within far_u. none_by k within far_u (cases_eq k i);
        out = λ k before within far_u m in_real. out_by k within far_u m in_real (same_or_before k i before);
      }
    where
      turn : IsTurned shape start i j t mid
      turn = turns shape start i j t mid here.reached_is there (here.none i there far) some is_turned

      there_mid : i < length mid.rows
      there_mid = omega (arith, there, turn.count)

      least : IsLeast shape mid i j
      least k within above =
          let right = monotone (cell mid i j) (pos 0) (cell mid k shape.right) (omega (arith, ints, turn.above)) (turn.basic.sides k within) in
          omega (arith, ints, right, *ℤ-zero (cell mid i j), ap (λ z. cell mid k j *ℤ z) turn.side, *ℤ-zero (cell mid k j))

      count : length u.rows ≡ length t.rows
      count = same_count shape i j start mid u turn.basic turn.follows there_mid turn.above is ∙ turn.count

      same_basis : get_or u.basis i 0 ≡ j
      same_basis = basis_same shape i j start mid u turn.basic turn.follows there_mid turn.above is

      other_basis : (k : ℕ) → (k ≡ i → ⊥) → get_or u.basis k 0 ≡ get_or t.basis k 0
      other_basis k apart = basis_other shape i j start mid u turn.basic turn.follows there_mid turn.above is k apart ∙ ap (λ l. get_or l k 0) turn.basis

      none_by : (k : ℕ) → k < length u.rows → shape.real ≤ get_or u.basis k 0 → (k ≡ i) ⊎ (k ≡ i → ⊥) → cell u k shape.right ≡ pos 0
      none_by k within far_u (inl same) = absurd (omega (arith, real, far_u, ap (λ n. get_or u.basis n 0) same, same_basis))
      none_by k within far_u (inr apart) =
          keeps_none j (get_or mid.rows k []) (get_or mid.rows i []) (get_or u.rows k [])
          (other shape i j start mid u turn.basic turn.follows there_mid turn.above is k (omega (arith, within, count, turn.count)) apart)
          (λ row. entry row shape.right) (entry_linear shape.right)
          (ap (λ row. entry row shape.right) (turn.others k apart) ∙ here.none k (omega (arith, within, count)) (omega (arith, far_u, other_basis k apart))) turn.side

      out_by : (k : ℕ) → k < length u.rows → shape.real ≤ get_or u.basis k 0 → (m : ℕ) → m < shape.real → (k < i) ⊎ (k ≡ i) → cell u k m ≡ pos 0
      out_by k within far_u m in_real (inr same) = absurd (omega (arith, real, far_u, ap (λ n. get_or u.basis n 0) same, same_basis))
      out_by k within far_u m in_real (inl earlier) =
          let apart : k ≡ i → ⊥ = λ same. omega (arith, earlier, same) in
          let before : (n : ℕ) → n < shape.real → cell mid k n ≡ pos 0 = λ n in_n. ap (λ row. entry row n) (turn.others k apart) ∙ here.out k earlier (omega (arith, within, count)) (omega (arith, far_u, other_basis k apart)) n in_n in
          keeps_flat j (get_or mid.rows k []) (get_or mid.rows i []) (get_or u.rows k [])
          (other shape i j start mid u turn.basic turn.follows there_mid turn.above is k (omega (arith, within, count, turn.count)) apart)
          (λ row. entry row m) (entry_linear m) (before j real) (before m in_real)

  pub driven_end : (left i : ℕ) (t : Tableau) (rows : List (List ℤ)) → i + length rows ≡ length t.rows → IsDriven shape start i t → DrivenEnd (driven shape left i t rows)
  unfolding driven
  driven_end left i t [] count here =
      (here.reached_is, λ k within far. (here.none k within far, λ m real. here.out k (omega (arith, within, count)) within far m real))
  driven_end left i t (row ∷ rows) count here =
      by (is_real shape (get_or t.basis i 0)) refl (place_from (λ x. not (is_zero x)) 0 (take shape.real (get_or t.rows i []))) refl
      (λ l s same there. driven_end l (i + 1) s rows same there)
    where
      by : (b : Bool) → is_real shape (get_or t.basis i 0) ≡ b → (o : Option ℕ) → place_from (λ x. not (is_zero x)) 0 (take shape.real (get_or t.rows i [])) ≡ o
          → ((l : ℕ) (s : Tableau) → i + 1 + length rows ≡ length s.rows → IsDriven shape start (i + 1) s → DrivenEnd (driven shape l (i + 1) s rows))
          → DrivenEnd (if b then driven shape left (i + 1) t rows else driven_at (λ l s. driven shape l (i + 1) s rows) left i t o)
      by true real o p go =
          let within : get_or t.basis i 0 < shape.real = grind (arith, nat_tests) in
          go left t (omega (arith, count)) (real_passes i t within here)
      by false far None p go = go left t (omega (arith, count)) (zero_passes i t p here)
      by false far (Some j) p go = at left (turned i j t) refl
        where
          beyond : shape.real ≤ get_or t.basis i 0
          beyond = grind (arith, nat_tests)

          at : (l : ℕ) (o : Option Tableau) → turned i j t ≡ o → DrivenEnd (driven_at (λ m s. driven shape m (i + 1) s rows) l i t (Some j))
          at zero o q = tt
          at (suc l) None q = subst (λ (e : Option Tableau). DrivenEnd (after_pivot (λ s. driven shape l (i + 1) s rows) (option_and_then (pivoted i j) e))) (sym q) tt
          at (suc l) (Some mid) q =
              subst (λ (e : Option Tableau). DrivenEnd (after_pivot (λ s. driven shape l (i + 1) s rows) (option_and_then (pivoted i j) e))) (sym q) (last (pivoted i j mid) refl)
            where
              last : (o : Option Tableau) → pivoted i j mid ≡ o → DrivenEnd (after_pivot (λ s. driven shape l (i + 1) s rows) o)
              last None r = tt
              last (Some u) r =
                  let column = found_column shape (get_or t.rows i []) j p in
                  let there : i < length t.rows = omega (arith, count) in
                  let done = pivot_passes i j t mid u there beyond column.0 column.1 here q r in
                  let same : length u.rows ≡ length t.rows = done.reached_is.follows.count ∙ sym here.reached_is.follows.count in
                  go l u (omega (arith, count, same)) done
