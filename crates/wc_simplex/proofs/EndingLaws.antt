-- What the machine's end holds: a solution or a ray that holds, and never a column for which no row leaves.
use Rattle.std.proofs.Common.{◌≡◌, ℕ, zero, suc, ◌+◌, ◌-◌, ◌/◌, ◌<◌, ◌≤◌, ◌==◌, nat_lt, ℤ, pos, negsuc, ◌+ℤ◌, ◌-ℤ◌, ◌*ℤ◌, neg_ℤ, ◌≤ℤ◌, ◌<ℤ◌, Bool, true, false, if◌then◌else◌, List, [], ◌∷◌, ◌++◌, map, get_or, replicate, length, inl, inr, ◌⊎◌, Option, None, Some, option_and_then, option_map, refl, sym, ap, ap₂, subst, ◌∙◌, arith}
use Rattle.std.specs.Prelude.{slice_get}
use Rattle.std.specs.List.{range_with_len}
use Rattle.std.proofs.Math.IntN.{*ℤ-zero, zero-*ℤ, *ℤ_comm}
use Prim.Native.Nat.{◌∣◌}
use Rattle.std.proofs.lemmas.Bool.{ne_eqb}
use Rattle.std.proofs.lemmas.Bool.Decides.{nat_tests}
use Rattle.std.proofs.lemmas.Int.{ints}
use Rattle.std.proofs.lemmas.List.{get_or-replicate, length-replicate}
use Rattle.std.proofs.lemmas.List.FromFn.{get_or-range_with_len, length-range_with_len}
use Rattle.std.proofs.lemmas.Option.{same_Some}
use Rattle.wc_base.specs.Sums.{chosen, sum_in}
use Rattle.wc_base.proofs.Products.{neg_times, times_neg}
use Rattle.wc_model.specs.declared.flow_system.Ray.{Ray}
use Rattle.wc_model.specs.declared.flow_system.Solution.{Solution}
use Rattle.wc_model.specs.declared.flow_system.System.{System}
use Rattle.wc_model.specs.declared.flow_system.SystemStep.{SystemStep}
use Rattle.wc_model.specs.Flow.Cells.{columns_of}
use Rattle.wc_model.specs.Flow.Certificates.{ArePrices, Prices, RayHolds, SolutionHolds, dual_value, free, scaled, step_price}
use Rattle.wc_model.specs.Flow.Counts.{IsFeasible, cycles, value_of}
use Rattle.wc_model.specs.Flow.Exact.{each_of, negate_exact}
use Rattle.wc_model.specs.Flow.Places.{number_at}
use Rattle.wc_model.specs.Flow.RowMachine.{Ending, MachineEnd, Shape, Tableau, after_ending, best, between, cell, driven, endless, entering, entry, infeasible, is_negative, machine, many, number_limit, phase, pivot_limit, reached, second_phase, unbounded, wide}
use Rattle.wc_model.specs.Flow.RowResults as results
use Rattle.wc_model.specs.Flow.RowResults.{RowPrices, common_from, counts_of, inner_potentials, potentials, prices_from, ray_of, row_of, solution, solution_of, solved_with, split_prices, sum_terms, value_terms}
use Rattle.wc_model.specs.Flow.Systems.{IsSystem}
use Rattle.wc_model.specs.Flow.Tableaus.{Start, column_cost, count_slacks, lines_of}
use Rattle.wc_simplex.specs.Inner.Reached.{IsReached}
use Rattle.wc_simplex.specs.Solutions.{weighs}
use Rattle.wc_simplex.proofs.BasisLemmas.{at_basis, at_columns, columns_z, on_columns, on_columns_linear, weighs_columns}
use Rattle.wc_simplex.proofs.BeginLemmas.{IsStart, IsStartOf, parted_middle, parted_real, start_reached}
use Rattle.wc_simplex.proofs.CertifyLemmas.{are_prices, dual_is, u_counted, v_counted, w_counted}
use Rattle.wc_simplex.proofs.ChainLemmas.{IsOnFrom, step_at}
use Rattle.wc_simplex.proofs.ChoosingLemmas.{IsFlat, entering_none, negative_below, not_negative}
use Rattle.wc_simplex.proofs.CountingLemmas.{IsCounts, column_within, cost_value, counts_feasible, counts_value}
use Rattle.wc_simplex.proofs.ExactLemmas.{kept_is}
use Rattle.wc_simplex.proofs.FlatLemmas.{basic_counts, basic_each, basic_first, first_never_flat, second_never_flat, sides_none}
use Rattle.wc_simplex.proofs.GoalLemmas.{goal_follows, priced_sum, w_priced, z_priced}
use Rattle.wc_simplex.proofs.LineSums.{each_at}
use Rattle.wc_simplex.proofs.PartitionLemmas.{flat, listed}
use Rattle.wc_simplex.proofs.ReachLemmas.{AreLeftOut, DrivenEnd, IsReachedOut, PhaseEnd, driven_end, out_pivot, phase_end, reached_pivot}
use Rattle.wc_simplex.proofs.ReadingLemmas.{IsDenominator, at_row, basis_apart, denominator_is, feasible_same, in_row, row_count, row_has, row_none, row_solves, row_some, value_is, value_same}
use Rattle.wc_simplex.proofs.ShownLemmas.{are_shown}
use Rattle.wc_simplex.proofs.StartLemmas.{each_length}

-- the goal row of the costs
cost_column : (s : System) (columns : List (List ℕ)) (start : Start) (of : IsStartOf s columns start) (j : ℕ) → j < length columns → entry start.first.z j ≡ neg_ℤ (sum_in (λ i. pos (step_at s i).cost) (get_or columns j []))
cost_column s columns start of j within =
    ap (λ row. entry row j) of.z
    ∙ parted_real of.costs (replicate (count_slacks (lines_of s) + length of.hs) (pos 0)) (pos 0) (pos 1) (length columns) (length columns + length (replicate (count_slacks (lines_of s) + length of.hs) (pos 0))) costs_wide refl j within
    ∙ cost_value s (get_or columns j []) (entry of.costs j) (each_at (λ column. option_and_then negate_exact (column_cost s column)) columns of.costs j [] (pos 0) of.costs_are within)
    ∙ negated (get_or columns j [])
  where
    costs_wide : length of.costs ≡ length columns
    costs_wide = each_length (λ column. option_and_then negate_exact (column_cost s column)) columns of.costs of.costs_are

    negated : (xs : List ℕ) → sum_in (λ i. neg_ℤ (pos (step_at s i).cost)) xs ≡ neg_ℤ (sum_in (λ i. pos (step_at s i).cost) xs)
    negated [] = refl
    negated (x ∷ xs) = omega (arith, ints, negated xs)

slack_column : (s : System) (columns : List (List ℕ)) (start : Start) (of : IsStartOf s columns start) (m : ℕ) → m < count_slacks (lines_of s) → entry start.first.z (length columns + m) ≡ pos 0
slack_column s columns start of m within =
    ap (λ row. entry row (length columns + m)) of.z
    ∙ parted_middle of.costs (replicate (count_slacks (lines_of s) + length of.hs) (pos 0)) (pos 0) (pos 1) (length columns) (length columns + length (replicate (count_slacks (lines_of s) + length of.hs) (pos 0)))
    (each_length (λ column. option_and_then negate_exact (column_cost s column)) columns of.costs of.costs_are) refl m (omega (arith, within, length-replicate (count_slacks (lines_of s) + length of.hs) (pos 0)))
    ∙ get_or-replicate (count_slacks (lines_of s) + length of.hs) m (pos 0) (pos 0) (omega (arith, within))

module _ (s : System) (sound : IsSystem s) (each : (k : ℕ) → k < length s.steps → IsOnFrom s k) (start : Start) (of : IsStartOf s (columns_of s) start) where
  few : start.shape.real ≤ start.shape.right
  few = omega (arith, of.is.right)

  -- The end of the machine.
  abbrev pub EndFine : MachineEnd → Type 0
  EndFine (best t) = IsReachedOut start.shape start.first t × (entering start.shape t.z ≡ None)
  EndFine (infeasible t) = IsReached start.shape start.first t × (entering start.shape t.w ≡ None) × (entry t.w start.shape.right <ℤ pos 0)
  EndFine wide = Unit {0}
  EndFine many = Unit {0}
  EndFine endless = ⊥

  module _ (prices : Prices) (priced : ArePrices s (scaled (pos 1)) prices) where
    second_fine : (left : ℕ) (t : Tableau) → IsReachedOut start.shape start.first t → EndFine (second_phase start.shape left t)
    second_fine left t out =
        by (phase false start.shape left t)
        (phase_end (IsReachedOut start.shape start.first) false start.shape (λ t u r j here pivot is. out_pivot start.shape start.first t u t.z r j few here pivot is) left t out)
      where
        by : (e : Ending) → PhaseEnd (IsReachedOut start.shape start.first) false start.shape e → EndFine (after_ending (λ _ end. best end) e)
        by (reached n u) end = (end.0, end.1)
        by number_limit end = tt
        by pivot_limit end = tt
        by unbounded end = second_never_flat s sound each prices priced start of end.0 end.1 end.2.0 end.2.1

    between_fine : (left : ℕ) (t : Tableau) → IsReached start.shape start.first t → entering start.shape t.w ≡ None → EndFine (between start.shape left t)
    between_fine left t here none = by (is_negative (entry t.w start.shape.right)) refl
      where
        later : (e : Ending) → DrivenEnd start.shape start.first few e → EndFine (after_ending (second_phase start.shape) e)
        later (reached n u) end = second_fine n u end
        later number_limit end = tt
        later pivot_limit end = tt
        later unbounded end = end

        by : (b : Bool) → is_negative (entry t.w start.shape.right) ≡ b → EndFine (if b then infeasible t else after_ending (second_phase start.shape) (driven start.shape left 0 t t.rows))
        by true below = (here, none, negative_below (entry t.w start.shape.right) below)
        by false above =
            later (driven start.shape left 0 t t.rows)
            (driven_end start.shape start.first few left 0 t t.rows (omega arith)
            (record {
              reached_is = here;
              none = λ k within far. sides_none start.shape (length of.hs) start.first t of.is here (not_negative (entry t.w start.shape.right) above) k within far;
              out = λ k before within far m real. absurd (omega (arith, before));
            }))

    pub machine_fine : (most : ℕ) → EndFine (machine start.shape most start.first)
    machine_fine most =
        by (phase true start.shape most start.first)
        (phase_end (IsReached start.shape start.first) true start.shape (λ t u r j here pivot is. reached_pivot start.shape start.first t u t.w r j few here pivot is) most start.first
        (start_reached start.shape (length of.hs) start.first of.is))
      where
        by : (e : Ending) → PhaseEnd (IsReached start.shape start.first) true start.shape e → EndFine (after_ending (between start.shape) e)
        by (reached n u) end = between_fine n u end.0 end.1
        by number_limit end = tt
        by pivot_limit end = tt
        by unbounded end = first_never_flat start.shape (length of.hs) start.first end.0 of.is end.1 end.2.0 end.2.1

  -- The ray.
  module _ (t : Tableau) (here : IsReached start.shape start.first t) (none : entering start.shape t.w ≡ None) (below : entry t.w start.shape.right <ℤ pos 0) where
    ray_at : (all : List ℤ) → prices_from t.w start.shape.real (entry t.w (suc start.shape.right)) start.negated ≡ Some all → (inner : List (ℕ × ℤ)) → inner_potentials s (pos 0) (split_prices s all) (columns_of s) ≡ Some inner
        → RayHolds s (record { u = potentials s (split_prices s all) inner; v = (split_prices s all).loops; w = (split_prices s all).limits })
    ray_at all is inner found =
        let shown = are_shown s (columns_of s) start of t.w (entry t.w (suc start.shape.right)) (pos 0) (entry t.w start.shape.right) all is
        (λ j within. omega (
          arith,
          ints,
          w_priced start.shape (length of.hs) start.first t of.is here j (of.is.sums j (omega (arith, within, of.real))),
          entering_none start.shape t.w none j (omega (arith, within, of.real)),
          zero-*ℤ (sum_in (λ i. pos (step_at s i).cost) (get_or (columns_of s) j [])),
        ))
        (λ m within. omega (
          arith,
          ints,
          w_priced start.shape (length of.hs) start.first t of.is here (length (columns_of s) + m) (of.is.sums (length (columns_of s) + m) (omega (arith, within, of.real))),
          entering_none start.shape t.w none (length (columns_of s) + m) (omega (arith, within, of.real)),
        ))
        (w_priced start.shape (length of.hs) start.first t of.is here start.shape.right of.is.sum_sides) in
        let priced = are_prices s sound each (pos 0) (entry t.w start.shape.right) all shown inner found in
        record {
          nodes = u_counted s sound each (pos 0) (entry t.w start.shape.right) all shown inner found;
          loops = v_counted s sound each (pos 0) (entry t.w start.shape.right) all shown inner found;
          limits = w_counted s sound each (pos 0) (entry t.w start.shape.right) all shown inner found;
          prices =
              record {
                loops_some = priced.loops_some;
                limits_some = priced.limits_some;
                steps = λ i step at. omega (arith, ints, priced.steps i step at, *ℤ-zero (cycles step));
              };
          below = omega (arith, ints, below, dual_is s sound each (pos 0) (entry t.w start.shape.right) all shown inner found);
        }

    pub ray_holds : (r : Ray) → ray_of s (columns_of s) start t ≡ Some r → RayHolds s r
    ray_holds r is = by (prices_from t.w start.shape.real (entry t.w (suc start.shape.right)) start.negated) refl is
      where
        at : (all : List ℤ) → prices_from t.w start.shape.real (entry t.w (suc start.shape.right)) start.negated ≡ Some all → (o : Option (List (ℕ × ℤ))) → inner_potentials s (pos 0) (split_prices s all) (columns_of s) ≡ o
            → option_map (λ inner. record { u = potentials s (split_prices s all) inner; v = (split_prices s all).loops; w = (split_prices s all).limits }) o ≡ Some r → RayHolds s r
        at all p None q e = absurd (cc)
        at all p (Some inner) q e =
            subst (λ (x : Ray). RayHolds s x) (same_Some (record { u = potentials s (split_prices s all) inner; v = (split_prices s all).loops; w = (split_prices s all).limits }) r e) (ray_at all p inner q)

        by : (o : Option (List ℤ)) → prices_from t.w start.shape.real (entry t.w (suc start.shape.right)) start.negated ≡ o
            → option_and_then (λ all. option_map (λ inner. record { u = potentials s (split_prices s all) inner; v = (split_prices s all).loops; w = (split_prices s all).limits }) (inner_potentials s (pos 0) (split_prices s all) (columns_of s))) o ≡ Some r
            → RayHolds s r
        by None p e = absurd (cc)
        by (Some all) p e = at all p (inner_potentials s (pos 0) (split_prices s all) (columns_of s)) refl e

  -- The solution.
  module _ (t : Tableau) (out : IsReachedOut start.shape start.first t) (none : entering start.shape t.z ≡ None) where
    abbrev counts : ℕ → ℕ → ℤ
    counts den k = row_count start.shape t out.0.above out.0.basic.sides out.0.basic.bases den k

    sides_of : (k : ℕ) → k < length t.rows → start.shape.real ≤ get_or t.basis k 0 → cell t k start.shape.right ≡ pos 0
    sides_of k within far = (out.1 k within far).0

    module _ (v : ℤ) (den : IsDenominator start.shape t out.0.above out.0.basic.sides out.0.basic.bases 0 1 t.basis v) (xs : List ℤ) (is_xs : counts_of s start.shape t (columns_of s) (pos den.all) ≡ Some xs) where
      divides : (k : ℕ) → k < length t.rows → get_or t.basis k 0 < start.shape.real → (results.count_in start.shape t k).under ∣ den.all
      divides k within real =
          let same : 0 + k ≡ k = omega arith in
          subst (λ n. (results.count_in start.shape t n).under ∣ den.all) same (den.each k (omega (arith, within, out.0.basic.bases)) real)

      solve : (k : ℕ) → k < length t.rows → counts den.all k *ℤ cell t k (get_or t.basis k 0) ≡ pos den.all *ℤ cell t k start.shape.right
      solve = row_solves start.shape t out.0.above out.0.basic.sides out.0.basic.bases den.all divides sides_of

      abbrev at : ℕ → ℤ
      at j = at_columns (neg_ℤ (pos den.all)) start.shape.right (counts den.all) t.basis j

      are_counts : IsCounts start (pos den.all) (at_columns (neg_ℤ (pos den.all)) start.shape.right (counts den.all) t.basis)
      are_counts =
          basic_counts start (length of.hs) t of.is out (counts den.all) (λ k within. row_some start.shape t out.0.above out.0.basic.sides out.0.basic.bases den.all k)
          (λ k within far. row_none start.shape t out.0.above out.0.basic.sides out.0.basic.bases den.all k far) (pos den.all) solve

      -- the list has these counts
      xs_counted : length xs ≡ length s.steps
      xs_counted = each_length (λ i. results.scaled start.shape t (pos den.all) (row_of (results.column_of i 0 (columns_of s)) 0 t.basis)) (range_with_len 0 (length s.steps)) xs is_xs ∙ length-range_with_len 0 (length s.steps)

      scaled_is : (j : ℕ) (x : ℤ) → j < start.shape.real → results.scaled start.shape t (pos den.all) (row_of j 0 t.basis) ≡ Some x → x ≡ at_columns (neg_ℤ (pos den.all)) start.shape.right (counts den.all) t.basis j
      scaled_is j x real is = by (row_of j 0 t.basis) refl is
        where
          same_at : at_columns (neg_ℤ (pos den.all)) start.shape.right (counts den.all) t.basis j ≡ in_row (counts den.all) (row_of j 0 t.basis)
          same_at =
              omega (
                arith,
                ints,
                ap (λ c. chosen c (neg_ℤ (pos den.all))) (ne_eqb start.shape.right j (λ same. omega (arith, same, real, few))),
                at_row (counts den.all) 0 t.basis j (basis_apart start.shape start.first t out.0),
              )

          by : (o : Option ℕ) → row_of j 0 t.basis ≡ o → results.scaled start.shape t (pos den.all) o ≡ Some x → x ≡ at_columns (neg_ℤ (pos den.all)) start.shape.right (counts den.all) t.basis j
          by None p e = sym (same_Some (pos 0) x e) ∙ sym (same_at ∙ ap (in_row (counts den.all)) p)
          by (Some r) p e =
              let has = row_has j 0 t.basis r p in
              let row : r ≡ has.0 = omega (arith, has.1) in
              let column : get_or t.basis r 0 ≡ j = ap (λ n. get_or t.basis n 0) row ∙ has.3 in
              let test : nat_lt (get_or t.basis r 0) start.shape.real ≡ true = grind (arith, nat_tests) in
              sym (kept_is (pos (results.count_in start.shape t r).over *ℤ pos (den.all / (results.count_in start.shape t r).under)) x e).0
              ∙ sym (same_at ∙ ap (in_row (counts den.all)) p ∙ ap (λ c. if c then pos (results.count_in start.shape t r).over *ℤ pos (den.all / (results.count_in start.shape t r).under) else pos 0) test)

      xs_at : (i : ℕ) → i < length s.steps → at_columns (neg_ℤ (pos den.all)) start.shape.right (counts den.all) t.basis (results.column_of i 0 (columns_of s)) ≡ number_at xs i
      xs_at i within =
          let none_more : 0 + i ≡ i = omega arith in
          let place : get_or (range_with_len 0 (length s.steps)) i 0 ≡ i = get_or-range_with_len 0 (length s.steps) i 0 within ∙ none_more in
          let here = each_at (λ k. results.scaled start.shape t (pos den.all) (row_of (results.column_of k 0 (columns_of s)) 0 t.basis)) (range_with_len 0 (length s.steps)) xs i 0 (pos 0) is_xs (omega (arith, within, length-range_with_len 0 (length s.steps))) in
          let column : results.column_of i 0 (columns_of s) < start.shape.real = omega (arith, column_within i 0 (columns_of s) (listed s each i within), of.real) in
          sym
          (scaled_is (results.column_of i 0 (columns_of s)) (number_at xs i) column
          (ap (λ k. results.scaled start.shape t (pos den.all) (row_of (results.column_of k 0 (columns_of s)) 0 t.basis)) (sym place) ∙ here))

      feasible : IsFeasible s (pos den.all) (number_at xs)
      feasible =
          feasible_same s sound (λ i. at_columns (neg_ℤ (pos den.all)) start.shape.right (counts den.all) t.basis (results.column_of i 0 (columns_of s))) (number_at xs) xs_at (pos den.all)
          (counts_feasible s sound each start of (pos den.all) (at_columns (neg_ℤ (pos den.all)) start.shape.right (counts den.all) t.basis) are_counts (omega (arith, ints, den.some)))

      -- den times the right side of the goal row is its own coefficient times the value
      value_times : value_of cycles s.steps (number_at xs) *ℤ entry t.z (suc start.shape.right) ≡ pos den.all *ℤ entry t.z start.shape.right
      value_times =
          let zeros = basic_first start.shape (length of.hs) start.first t of.is out.0 (pos den.all) (counts den.all) solve in
          let follows = goal_follows start.shape (length of.hs) start.first of.is start.first.z t.z out.0.follows.z_after of.is.own_z (on_columns (neg_ℤ (pos den.all)) start.shape.right (counts den.all) t.basis)
          (on_columns_linear (neg_ℤ (pos den.all)) start.shape.right (counts den.all) t.basis) zeros in
          let now = columns_z start.shape start.first t out.0 (neg_ℤ (pos den.all)) start.shape.right (counts den.all) (basic_each start.shape (length of.hs) start.first t of.is out.0 (pos den.all) (counts den.all) solve) in
          let weight = weighs_columns (neg_ℤ (pos den.all)) start.shape.right (counts den.all) t.basis start.first.z in
          let value = counts_value s sound each start of (pos den.all) (at_columns (neg_ℤ (pos den.all)) start.shape.right (counts den.all) t.basis) are_counts in
          let same = value_same s sound (λ i. at_columns (neg_ℤ (pos den.all)) start.shape.right (counts den.all) t.basis (results.column_of i 0 (columns_of s))) (number_at xs) xs_at in
          omega (
            arith,
            ints,
            follows,
            now,
            ap (λ z. z *ℤ entry t.z (suc start.shape.right)) (sym weight ∙ value ∙ ap neg_ℤ same),
            neg_times (value_of cycles s.steps (number_at xs)) (entry t.z (suc start.shape.right)),
            neg_times (pos den.all) (entry t.z start.shape.right),
          )

      module _ (all : List ℤ) (is_all : prices_from t.z start.shape.real (pos 0) start.negated ≡ Some all) (inner : List (ℕ × ℤ))
          (found : inner_potentials s (entry t.z (suc start.shape.right)) (split_prices s all) (columns_of s) ≡ Some inner) (num : ℤ) (is_num : sum_terms (pos 0) (value_terms s.steps xs) ≡ Some num) where
        solution_at : SolutionHolds s (solution num v xs (entry t.z (suc start.shape.right)) (potentials s (split_prices s all) inner) (split_prices s all))
        solution_at =
            let shown = are_shown s (columns_of s) start of t.z (pos 0) (entry t.z (suc start.shape.right)) (entry t.z start.shape.right) all is_all
            (λ j within. omega (
              arith,
              ints,
              z_priced start.shape (length of.hs) start.first t of.is out.0 j,
              ap (λ z. z *ℤ entry t.z (suc start.shape.right)) (cost_column s (columns_of s) start of j within),
              neg_times (sum_in (λ i. pos (step_at s i).cost) (get_or (columns_of s) j [])) (entry t.z (suc start.shape.right)),
              *ℤ_comm (sum_in (λ i. pos (step_at s i).cost) (get_or (columns_of s) j [])) (entry t.z (suc start.shape.right)),
              entering_none start.shape t.z none j (omega (arith, within, of.real)),
            ))
            (λ m within. omega (
              arith,
              ints,
              z_priced start.shape (length of.hs) start.first t of.is out.0 (length (columns_of s) + m),
              ap (λ z. z *ℤ entry t.z (suc start.shape.right)) (slack_column s (columns_of s) start of m within),
              zero-*ℤ (entry t.z (suc start.shape.right)),
              entering_none start.shape t.z none (length (columns_of s) + m) (omega (arith, within, of.real)),
            ))
            (omega (
              arith,
              ints,
              z_priced start.shape (length of.hs) start.first t of.is out.0 start.shape.right,
              ap (λ z. z *ℤ entry t.z (suc start.shape.right)) of.is.side_z,
              zero-*ℤ (entry t.z (suc start.shape.right)),
            )) in
            let value : value_of cycles s.steps (number_at xs) ≡ num = omega (arith, ints, value_is (pos 0) s.steps xs num xs_counted is_num) in
            let dual = dual_is s sound each (entry t.z (suc start.shape.right)) (entry t.z start.shape.right) all shown inner found in
            record {
              counts = xs_counted;
              nodes = u_counted s sound each (entry t.z (suc start.shape.right)) (entry t.z start.shape.right) all shown inner found;
              loops = v_counted s sound each (entry t.z (suc start.shape.right)) (entry t.z start.shape.right) all shown inner found;
              limits = w_counted s sound each (entry t.z (suc start.shape.right)) (entry t.z start.shape.right) all shown inner found;
              scale = out.0.follows.own_z;
              feasible = subst (λ (z : ℤ). IsFeasible s z (number_at xs)) (sym den.is) feasible;
              prices = are_prices s sound each (entry t.z (suc start.shape.right)) (entry t.z start.shape.right) all shown inner found;
              value = value;
              dual =
                  ap (λ z. z *ℤ entry t.z (suc start.shape.right)) (sym value) ∙ value_times ∙ ap₂ (λ x y. x *ℤ y) (sym den.is) (sym dual);
            }

    pub solution_holds : (c : Solution) → solution_of s (columns_of s) start t ≡ Some c → SolutionHolds s c
    solution_holds c is = by (prices_from t.z start.shape.real (pos 0) start.negated) refl is
      where
        last : (all : List ℤ) → prices_from t.z start.shape.real (pos 0) start.negated ≡ Some all → (inner : List (ℕ × ℤ)) → inner_potentials s (entry t.z (suc start.shape.right)) (split_prices s all) (columns_of s) ≡ Some inner
            → (v : ℤ) → common_from start.shape t 0 (pos 1) t.basis ≡ Some v → (xs : List ℤ) → counts_of s start.shape t (columns_of s) v ≡ Some xs → (o : Option ℤ) → sum_terms (pos 0) (value_terms s.steps xs) ≡ o
            → option_map (λ num. solution num v xs (entry t.z (suc start.shape.right)) (potentials s (split_prices s all) inner) (split_prices s all)) o ≡ Some c → SolutionHolds s c
        last all p inner q v d xs x None n e = absurd (cc)
        last all p inner q v d xs x (Some num) n e =
            let den = denominator_is start.shape t out.0.above out.0.basic.sides out.0.basic.bases 0 1 t.basis v (omega arith) (omega (arith, out.0.basic.bases)) d in
            subst (λ (y : Solution). SolutionHolds s y) (same_Some (solution num v xs (entry t.z (suc start.shape.right)) (potentials s (split_prices s all) inner) (split_prices s all)) c e)
            (solution_at v den xs (ap (counts_of s start.shape t (columns_of s)) (sym den.is) ∙ x) all p inner q num n)

        read : (all : List ℤ) → prices_from t.z start.shape.real (pos 0) start.negated ≡ Some all → (inner : List (ℕ × ℤ)) → inner_potentials s (entry t.z (suc start.shape.right)) (split_prices s all) (columns_of s) ≡ Some inner
            → solved_with s (columns_of s) start.shape t (entry t.z (suc start.shape.right)) (split_prices s all) inner ≡ Some c → SolutionHolds s c
        read all p inner q e = dens (common_from start.shape t 0 (pos 1) t.basis) refl e
          where
            xs_by : (v : ℤ) → common_from start.shape t 0 (pos 1) t.basis ≡ Some v → (o : Option (List ℤ)) → counts_of s start.shape t (columns_of s) v ≡ o
                → option_and_then (λ x. option_map (λ num. solution num v x (entry t.z (suc start.shape.right)) (potentials s (split_prices s all) inner) (split_prices s all)) (sum_terms (pos 0) (value_terms s.steps x))) o ≡ Some c → SolutionHolds s c
            xs_by v d None x f = absurd (cc)
            xs_by v d (Some xs) x f = last all p inner q v d xs x (sum_terms (pos 0) (value_terms s.steps xs)) refl f

            dens : (o : Option ℤ) → common_from start.shape t 0 (pos 1) t.basis ≡ o
                → option_and_then (λ den. option_and_then (λ x. option_map (λ num. solution num den x (entry t.z (suc start.shape.right)) (potentials s (split_prices s all) inner) (split_prices s all)) (sum_terms (pos 0) (value_terms s.steps x))) (counts_of s start.shape t (columns_of s) den)) o ≡ Some c
                → SolutionHolds s c
            dens None d f = absurd (cc)
            dens (Some v) d f = xs_by v d (counts_of s start.shape t (columns_of s) v) refl f

        at : (all : List ℤ) → prices_from t.z start.shape.real (pos 0) start.negated ≡ Some all → (o : Option (List (ℕ × ℤ))) → inner_potentials s (entry t.z (suc start.shape.right)) (split_prices s all) (columns_of s) ≡ o
            → option_and_then (solved_with s (columns_of s) start.shape t (entry t.z (suc start.shape.right)) (split_prices s all)) o ≡ Some c → SolutionHolds s c
        at all p None q e = absurd (cc)
        at all p (Some inner) q e = read all p inner q e

        by : (o : Option (List ℤ)) → prices_from t.z start.shape.real (pos 0) start.negated ≡ o
            → option_and_then (λ all. option_and_then (solved_with s (columns_of s) start.shape t (entry t.z (suc start.shape.right)) (split_prices s all)) (inner_potentials s (entry t.z (suc start.shape.right)) (split_prices s all) (columns_of s))) o ≡ Some c
            → SolutionHolds s c
        by None p e = absurd (cc)
        by (Some all) p e = at all p (inner_potentials s (entry t.z (suc start.shape.right)) (split_prices s all) (columns_of s)) refl e
