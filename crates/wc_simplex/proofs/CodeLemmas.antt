-- Steps of the code that reads systems and tableaus.
use Rattle.std.proofs.Common.{◌≡◌, ℕ, zero, suc, ◌+◌, ◌-◌, ◌<◌, ◌≤◌, ◌^◌, ◌==◌, nat_lt, ℤ, pos, ◌+ℤ◌, ◌-ℤ◌, ◌*ℤ◌, Bool, true, false, if◌then◌else◌, List, [], ◌∷◌, ◌++◌, map, get_or, set, drop, replicate, length, inl, inr, ◌⊎◌, ⊎_elim, Result, Option, None, Some, option_and_then, option_map, refl, sym, ap, ap₂, subst, ◌∙◌, append_assoc, arith}
use Rattle.std.specs.Int.RustNames.{unsigned_abs}
use Rattle.std.specs.List.{All, range_with_len}
use Rattle.std.specs.Option.{IfSome, is_some}
use Rattle.std.proofs.lemmas.Bool.{cases_eq, eq-eqb, ne_eqb}
use Rattle.std.proofs.lemmas.Bool.Decides.{nat_tests}
use Rattle.std.specs.Result.{IfOk}
use Rattle.std.proofs.lemmas.Int.{ints, to_z-of_z}
use Rattle.std.proofs.lemmas.List.{drop_all, drop_more, get_or-map, get_or-replicate, get_or-set_other, get_or-set_same, length-map, length-replicate, length-set, map-id}
use Rattle.std.proofs.lemmas.List.Elements.{All-head, All-tail}
use Rattle.std.proofs.lemmas.List.FromFn.{length-range_with_len, map-range_with_len_more}
use Rattle.std.proofs.lemmas.Option.{same_Some}
use Rattle.std.proofs.lemmas.Result.{IfOk-weaker}
use mir.Syntax.{w128}
use mir.Val.{SFits, of_z, to_z}
use Rattle.wc_model.specs.declared.flow_system.System.{System}
use Rattle.wc_model.specs.declared.flow_system.SystemLoop.{SystemLoop}
use Rattle.wc_model.specs.declared.flow_system.SystemStep.{SystemStep}
use Rattle.wc_model.specs.Flow.Exact.{each_of, exact, negate_exact, sum_exact}
use Rattle.wc_model.specs.Flow.RowMachine.{Shape, Tableau, entry}
use Rattle.wc_model.specs.Flow.RowResults as results
use Rattle.wc_model.specs.Flow.RowResults.{RowPrices, chain_potentials, counts_of, inner_potentials, price_ahead, price_of, prices_from, row_of, scaled, signed, step_potential, sum_terms}
use Rattle.wc_model.specs.Flow.Systems.{named_by}
use Rattle.wc_model.specs.Flow.Tableaus.{Half, Line, column_cost, cost_row, halves, limit_line, loop_line, no_step, node_line}
use Rattle.wc_simplex.specs.declared.half.HalfRow.{HalfRow}
use Rattle.wc_simplex.specs.declared.known_prices.KnownPrices as code
use Rattle.wc_simplex.specs.declared.stated.StatedRow.{StatedRow}
use Rattle.wc_simplex.specs.declared.tableau.Machine.{Machine}
use Rattle.wc_simplex.specs.Inner.Columns.{IsChain, IsColumn}
use Rattle.wc_simplex.specs.Inner.Counts.{AreColumnsAt, AreRowsOf, counted}
use Rattle.wc_simplex.specs.Inner.Halves.{column_sum, row_half}
use Rattle.wc_simplex.specs.Inner.Lines.{IsLine}
use Rattle.wc_simplex.specs.Inner.Machines.{seen, shape_of}
use Rattle.wc_simplex.specs.Inner.Prices.{AreInner, AreInnerFor, AreKnown, ArePriced, IsChained, IsChainedFor, IsKnownAs, Learns, ahead_in, loops_and_limits}
use Rattle.wc_simplex.specs.Inner.Steps.{behind}
use Rattle.wc_simplex.proofs.ExactLemmas.{kept_is}
use Rattle.wc_simplex.proofs.HalfLemmas.{half_same, line_half}
use Rattle.wc_simplex.proofs.MakingLemmas.{line_added}
use Rattle.wc_simplex.proofs.RowLemmas.{behind_more}
use Rattle.wc_simplex.proofs.StartLemmas.{each_length}

some_none : {A : Type 0} (x : A) → Some x ≡ None → ⊥
some_none x is = cc

-- the nodes that a limit names
pub named_small : (n : ℕ) (fs : List (ℕ × ℤ)) → All (λ p. p < n) (map (λ f. f.0) fs) → All (λ f. f.0 < n) fs
named_small n fs all k d within =
    let few : k < length (map (λ f. f.0) fs) = omega (arith, within, length-map fs (λ f. f.0)) in
    subst (λ p. p < n) (get_or-map (λ f. f.0) fs k d 0 within) (all k 0 few)

-- The range of numbers from one on.
pub range_push : (k n : ℕ) → range_with_len k n ++ (k + n) ∷ [] ≡ range_with_len k (n + 1)
range_push k n =
    sym (sym (map-id (range_with_len k (n + 1))) ∙ map-range_with_len_more (λ x. x) k n (k + n) refl ∙ ap (λ l. l ++ (k + n) ∷ []) (map-id (range_with_len k n)))

-- The goal row of the costs.
cost_same : (s : System) (costs : List ℤ) (column : List ℕ) → costs ≡ map (λ t. pos t.cost) s.steps → All (λ i. i < length s.steps) column → column_sum costs column ≡ column_cost s column
cost_same s costs column is inside = ap (sum_exact (pos 0)) (by column inside)
  where
    by : (xs : List ℕ) → All (λ i. i < length s.steps) xs → map (λ i. get_or costs i (pos 0)) xs ≡ map (λ i. pos (get_or s.steps i no_step).cost) xs
    by [] all = refl
    by (x ∷ xs) all =
        ap₂ (λ y ys. y ∷ ys) (ap (λ l. get_or l x (pos 0)) is ∙ get_or-map (λ t. pos t.cost) s.steps x no_step (pos 0) (All-head (λ i. i < length s.steps) x xs all))
        (by xs (All-tail (λ i. i < length s.steps) x xs all))

costs_each : (s : System) (costs : List ℤ) (columns : List (List ℕ)) → costs ≡ map (λ t. pos t.cost) s.steps → All (IsColumn (length s.steps)) columns
    → each_of (λ column. option_and_then negate_exact (column_cost s column)) columns ≡ option_and_then (each_of negate_exact) (each_of (column_sum costs) columns)
costs_each s costs [] is inside = refl
costs_each s costs (column ∷ columns) is inside =
    ap₂ (λ (o : Option ℤ) l. option_and_then (λ y. option_map (λ ys. y ∷ ys) l) (option_and_then negate_exact o))
    (sym (cost_same s costs column is (All-head (IsColumn (length s.steps)) column columns inside).1)) (costs_each s costs columns is (All-tail (IsColumn (length s.steps)) column columns inside))
    ∙ by (column_sum costs column) (each_of (column_sum costs) columns)
  where
    none : (o : Option ℤ) → option_and_then (λ y. option_map (λ ys. y ∷ ys) None) o ≡ None
    none None = refl
    none (Some y) = refl

    by : (o : Option ℤ) (l : Option (List ℤ)) → option_and_then (λ y. option_map (λ ys. y ∷ ys) (option_and_then (each_of negate_exact) l)) (option_and_then negate_exact o)
        ≡ option_and_then (each_of negate_exact) (option_and_then (λ y. option_map (λ ys. y ∷ ys) l) o)
    by None l = refl
    by (Some y) None = none (negate_exact y)
    by (Some y) (Some ys) = refl

module _ (s : System) (costs costs_now : List ℤ) (columns : List (List ℕ)) (slacks rows : ℕ) (same : costs_now ≡ costs) (is : costs ≡ map (λ t. pos t.cost) s.steps) (inside : All (IsColumn (length s.steps)) columns) where
  whole : each_of (λ column. option_and_then negate_exact (column_cost s column)) columns ≡ option_and_then (each_of negate_exact) (each_of (column_sum costs_now) columns)
  whole = costs_each s costs_now columns (same ∙ is) inside

  pub goal_stops : None ≡ each_of (column_sum costs_now) columns → None ≡ option_map (cost_row slacks rows) (each_of (λ column. option_and_then negate_exact (column_cost s column)) columns)
  goal_stops none = sym (ap (option_map (cost_row slacks rows)) (whole ∙ ap (option_and_then (each_of negate_exact)) (sym none)))

  pub goal_goes : (sums : List ℤ) (o : Option (List ℤ)) → Some sums ≡ each_of (column_sum costs_now) columns
      → o ≡ option_map (λ turned. turned ++ replicate (slacks + rows) (pos 0) ++ pos 0 ∷ pos 1 ∷ []) (each_of negate_exact sums)
      → o ≡ option_map (cost_row slacks rows) (each_of (λ column. option_and_then negate_exact (column_cost s column)) columns)
  goal_goes sums o some made = made ∙ sym (ap (option_map (cost_row slacks rows)) (whole ∙ ap (option_and_then (each_of negate_exact)) (sym some)))

-- The counts of the steps.
pub counts_at : (s : System) (m : Machine) (den : ℕ) (columns : List (List ℕ)) (rows : List (Option ℕ)) (at : List ℕ) → AreRowsOf m.right m.basis.items 0 rows → AreColumnsAt (length s.steps) columns 0 at
    → length columns ≤ m.right → each_of (counted m den rows) at ≡ counts_of s (shape_of m) (seen m) columns (pos den)
counts_at s m den columns rows at are_rows are_at few =
    by at 0 (length s.steps) are_at.count (λ i within. let none : 0 + i ≡ i = omega arith in
    ap (scaled (shape_of m) (seen m) (pos den)) (are_rows.each (get_or at i 0) (omega (arith, few, are_at.inside i within)) ∙ ap (λ j. row_of j 0 m.basis.items) (are_at.each i within ∙ ap (λ n. results.column_of n 0 columns) (sym none))))
  where
    by : (xs : List ℕ) (k n : ℕ) → length xs ≡ n
        → ((i : ℕ) → i < n → scaled (shape_of m) (seen m) (pos den) (get_or rows (get_or xs i 0) None) ≡ scaled (shape_of m) (seen m) (pos den) (row_of (results.column_of (k + i) 0 columns) 0 m.basis.items))
        → each_of (counted m den rows) xs ≡ each_of (λ i. scaled (shape_of m) (seen m) (pos den) (row_of (results.column_of i 0 columns) 0 m.basis.items)) (range_with_len k n)
    by [] k zero count each = refl
    by [] k (suc n) count each = absurd (omega (arith, count))
    by (x ∷ xs) k zero count each = absurd (omega (arith, count))
    by (x ∷ xs) k (suc n) count each =
        let here : k + 0 ≡ k = omega arith in
        ap₂ (λ (o : Option ℤ) l. option_and_then (λ y. option_map (λ ys. y ∷ ys) l) o)
        (each 0 (omega arith) ∙ ap (λ i. scaled (shape_of m) (seen m) (pos den) (row_of (results.column_of i 0 columns) 0 m.basis.items)) here)
        (by xs (k + 1) n (omega (arith, count)) (λ i within. let more : k + suc i ≡ k + 1 + i = omega arith in
        each (suc i) (omega (arith, within)) ∙ ap (λ j. scaled (shape_of m) (seen m) (pos den) (row_of (results.column_of j 0 columns) 0 m.basis.items)) more))

pub counts_length : (s : System) (shape : Shape) (t : Tableau) (columns : List (List ℕ)) (den : ℤ) (xs : List ℤ) → counts_of s shape t columns den ≡ Some xs → length xs ≡ length s.steps
counts_length s shape t columns den xs is =
    each_length (λ i. scaled shape t den (row_of (results.column_of i 0 columns) 0 t.basis)) (range_with_len 0 (length s.steps)) xs is ∙ length-range_with_len 0 (length s.steps)

-- the common multiple as the code makes it
pub multiple_read : (part next : ℕ) (v : ℤ) (r : ℕ) → SFits w128 v → exact (pos part *ℤ pos next) ≡ Some v → r ≡ unsigned_abs (to_z w128 (of_z w128 v)) → (Some (pos r) ≡ exact (pos part *ℤ pos next)) × (r < 2 ^ 127)
multiple_read part next v r fits is size =
    let kept = kept_is (pos part *ℤ pos next) v is in
    let same : r ≡ unsigned_abs v = size ∙ ap unsigned_abs (to_z-of_z w128 v fits) in
    (ap Some (ap pos same ∙ by v kept.0) ∙ sym is, omega (arith, same, kept.1))
  where
    by : (w : ℤ) → pos part *ℤ pos next ≡ w → pos (unsigned_abs w) ≡ w
    by w e = ap (λ z. pos (unsigned_abs z)) (sym e) ∙ e

-- one more count
pub counts_more : {Y : Type 0} (f : ℕ → Option Y) (front later : List Y) (xs : List ℕ) (i d : ℕ) (y : Y) (all : Option (List Y)) → i < length xs → behind front (each_of f (drop i xs)) ≡ all → f (get_or xs i d) ≡ Some y
    → later ≡ front ++ y ∷ [] → behind later (each_of f (drop (i + 1) xs)) ≡ all
counts_more f front later xs i d y all within so_far is made =
    ap (λ l. behind l (each_of f (drop (i + 1) xs))) made ∙ behind_more front y (each_of f (drop (i + 1) xs))
    ∙ sym (ap (λ l. behind front (each_of f l)) (drop_more xs i d within) ∙ ap (λ o. behind front (option_and_then (λ z. option_map (λ zs. z ∷ zs) (each_of f (drop (i + 1) xs))) o)) is) ∙ so_far

-- Prices of rows.
pub prices_stop : (goal : List ℤ) (real : ℕ) (base : ℤ) (front : List ℤ) (ns : List Bool) (i : ℕ) (d : Bool) (all : Option (List ℤ)) → i < length ns → behind front (prices_from goal (real + i) base (drop i ns)) ≡ all
    → option_and_then (signed (get_or ns i d)) (exact (entry goal (real + i) -ℤ base)) ≡ None → None ≡ all
prices_stop goal real base front ns i d all within so_far none =
    sym (ap (λ l. behind front (prices_from goal (real + i) base l)) (drop_more ns i d within)
    ∙ ap (λ o. behind front (option_and_then (λ price. option_map (λ ps. price ∷ ps) (prices_from goal (suc (real + i)) base (drop (i + 1) ns))) o)) none)
    ∙ so_far

pub prices_more : (goal : List ℤ) (real : ℕ) (base : ℤ) (front later : List ℤ) (ns : List Bool) (i : ℕ) (d : Bool) (v : ℤ) (all : Option (List ℤ)) → i < length ns → behind front (prices_from goal (real + i) base (drop i ns)) ≡ all
    → option_and_then (signed (get_or ns i d)) (exact (entry goal (real + i) -ℤ base)) ≡ Some v → later ≡ front ++ v ∷ [] → behind later (prices_from goal (real + (i + 1)) base (drop (i + 1) ns)) ≡ all
prices_more goal real base front later ns i d v all within so_far some made =
    let next : real + (i + 1) ≡ suc (real + i) = omega arith in
    ap₂ (λ l n. behind l (prices_from goal n base (drop (i + 1) ns))) made next ∙ behind_more front v (prices_from goal (suc (real + i)) base (drop (i + 1) ns))
    ∙ sym (ap (λ l. behind front (prices_from goal (real + i) base l)) (drop_more ns i d within)
    ∙ ap (λ o. behind front (option_and_then (λ price. option_map (λ ps. price ∷ ps) (prices_from goal (suc (real + i)) base (drop (i + 1) ns))) o)) some)
    ∙ so_far

-- The potential of a step.
sums_after : (acc : ℤ) (t : Option ℤ) (ts : List (Option ℤ)) → sum_terms acc (t ∷ ts) ≡ option_and_then (λ sum. sum_terms sum ts) (sum_terms acc (t ∷ []))
sums_after acc None ts = refl
sums_after acc (Some x) ts = by (exact (acc +ℤ x))
  where
    by : (o : Option ℤ) → option_and_then (λ sum. sum_terms sum ts) o ≡ option_and_then (λ sum. sum_terms sum ts) (option_and_then (λ sum. Some sum) o)
    by None = refl
    by (Some sum) = refl

pub potential_read : (ahead : ℤ) (t : Option ℤ) (back entries limits : List (Option ℤ)) (o1 o2 o3 o4 : Option ℤ) (a1 b1 a2 b2 a3 b3 : ℤ) → o1 ≡ sum_terms ahead (t ∷ []) → o1 ≡ Some a1 → b1 ≡ a1
    → ((ts : List (Option ℤ)) → sum_terms b1 (back ++ ts) ≡ option_and_then (λ sum. sum_terms sum ts) o2) → o2 ≡ Some a2 → b2 ≡ a2
    → ((ts : List (Option ℤ)) → sum_terms b2 (entries ++ ts) ≡ option_and_then (λ sum. sum_terms sum ts) o3) → o3 ≡ Some a3 → b3 ≡ a3 → o4 ≡ sum_terms b3 limits → o4 ≡ sum_terms ahead (t ∷ back ++ entries ++ limits)
potential_read ahead t back entries limits o1 o2 o3 o4 a1 b1 a2 b2 a3 b3 is1 some1 same1 is2 some2 same2 is3 some3 same3 is4 =
    sym
    (sums_after ahead t (back ++ entries ++ limits) ∙ ap (option_and_then (λ sum. sum_terms sum (back ++ entries ++ limits))) (sym is1 ∙ some1) ∙ ap₂ sum_terms (sym same1) (append_assoc back entries limits)
    ∙ is2 (entries ++ limits) ∙ ap (option_and_then (λ sum. sum_terms sum (entries ++ limits))) some2 ∙ ap (λ a. sum_terms a (entries ++ limits)) (sym same2)
    ∙ is3 limits ∙ ap (option_and_then (λ sum. sum_terms sum limits)) some3 ∙ ap (λ a. sum_terms a limits) (sym same3) ∙ sym is4)

-- One step back along a column.
module _ (s : System) (scale : ℤ) (p : code.KnownPrices) (column : List ℕ) (place : ℕ) (next : ℤ) (old now : List ℤ) (so_far : IsChained s scale p column place next old now) (some : 1 < place) (within : place ≤ length column) where
  abbrev here : ℕ
  here = get_or column (place - 1) 0

  back_more : drop (place - 1) column ≡ get_or column (place - 1) 0 ∷ drop place column
  back_more =
      let one : place - 1 + 1 ≡ place = omega (arith, some) in
      drop_more column (place - 1) 0 (omega (arith, some, within)) ∙ ap (λ n. get_or column (place - 1) 0 ∷ drop n column) one

  -- the definition at this step
  at_step : (known : RowPrices) → ArePriced s known p → (o : Option ℤ) → o ≡ step_potential s scale (loops_and_limits p) next (get_or column (place - 1) 0) (get_or s.steps (get_or column (place - 1) 0) no_step)
      → (us : List (ℕ × ℤ)) × (chain_potentials s scale known (drop place column) ≡ Some us) × ((rest : List (ℕ × ℤ)) → AreKnown s.nodes old rest → AreKnown s.nodes now (us ++ rest))
      × (chain_potentials s scale known (drop (place - 1) column) ≡ option_map (λ u. ((get_or s.steps (get_or column (place - 1) 0) no_step).source, u) ∷ us) o)
  at_step known priced o is =
      let rest = so_far.learnt known priced in (
        rest.us,
        rest.is,
        rest.knows,
        ap (chain_potentials s scale known) back_more
            ∙ ap
            (option_and_then (λ us. option_map (λ u. ((get_or s.steps (get_or column (place - 1) 0) no_step).source, u) ∷ us) (step_potential s scale known (price_ahead (us ++ known.nodes) (get_or s.steps (get_or column (place - 1) 0) no_step).target) (get_or column (place - 1) 0) (get_or s.steps (get_or column (place - 1) 0) no_step))))
            rest.is
            ∙ ap (option_map (λ u. ((get_or s.steps (get_or column (place - 1) 0) no_step).source, u) ∷ rest.us))
            (ap (λ a. step_potential s scale known a (get_or column (place - 1) 0) (get_or s.steps (get_or column (place - 1) 0) no_step)) rest.ahead
            ∙ ap₂ (λ vs ws. step_potential s scale (record { nodes = []; loops = vs; limits = ws }) next (get_or column (place - 1) 0) (get_or s.steps (get_or column (place - 1) 0) no_step)) (sym priced.loops) (sym priced.limits)
            ∙ sym is),
      )

  -- where one part of a column has no potentials, the whole has none
  none_before : (known : RowPrices) (k n : ℕ) → chain_potentials s scale known (drop (k + n) column) ≡ None → chain_potentials s scale known (drop k column) ≡ None
  none_before known k zero none = let same : k + 0 ≡ k = omega arith in ap (λ m. chain_potentials s scale known (drop m column)) (sym same) ∙ none
  none_before known k (suc n) none =
      let more : k + suc n ≡ k + n + 1 = omega arith in
      none_before known k n (by (nat_lt (k + n) (length column)) refl (ap (λ m. chain_potentials s scale known (drop m column)) (sym more) ∙ none))
    where
      by : (b : Bool) → nat_lt (k + n) (length column) ≡ b → chain_potentials s scale known (drop (k + n + 1) column) ≡ None → chain_potentials s scale known (drop (k + n) column) ≡ None
      by true e later =
          let few : k + n < length column = grind (arith, nat_tests) in
          ap (chain_potentials s scale known) (drop_more column (k + n) 0 few)
          ∙ ap
          (option_and_then (λ us. option_map (λ u. ((get_or s.steps (get_or column (k + n) 0) no_step).source, u) ∷ us) (step_potential s scale known (price_ahead (us ++ known.nodes) (get_or s.steps (get_or column (k + n) 0) no_step).target) (get_or column (k + n) 0) (get_or s.steps (get_or column (k + n) 0) no_step))))
          later
      by false e later =
          let far : length column ≤ k + n = grind (arith, nat_tests) in
          absurd (some_none [] (sym (ap (chain_potentials s scale known) (drop_all (k + n + 1) column (omega (arith, far)))) ∙ later))

  pub chain_stop : (o : Option ℤ) → o ≡ step_potential s scale (loops_and_limits p) next (get_or column (place - 1) 0) (get_or s.steps (get_or column (place - 1) 0) no_step) → o ≡ None
      → (known : RowPrices) → ArePriced s known p → chain_potentials s scale known (drop 1 column) ≡ None
  chain_stop o is none known priced =
      let step = at_step known priced o is in
      let at : 1 + (place - 2) ≡ place - 1 = omega (arith, some) in
      none_before known 1 (place - 2)
      (ap (λ m. chain_potentials s scale known (drop m column)) at ∙ step.3 ∙ ap (option_map (λ u. ((get_or s.steps (get_or column (place - 1) 0) no_step).source, u) ∷ step.0)) none)

  pub chain_more : (o : Option ℤ) (u v : ℤ) (new : List ℤ) → o ≡ step_potential s scale (loops_and_limits p) next (get_or column (place - 1) 0) (get_or s.steps (get_or column (place - 1) 0) no_step) → o ≡ Some u → v ≡ u
      → IsChain s column → (get_or s.steps (get_or column (place - 1) 0) no_step).source < length now → new ≡ set now (get_or s.steps (get_or column (place - 1) 0) no_step).source u → IsChained s scale p column (place - 1) v old new
  chain_more o u v new is found same chain inside made =
      record {
        some = omega (arith, some);
        counted = ap length made ∙ length-set now (get_or s.steps (get_or column (place - 1) 0) no_step).source u ∙ so_far.counted;
        learnt = λ known priced.
            let step = at_step known priced o is in
            let k : place - 1 ≡ suc (place - 2) = omega (arith, some) in
            let before : place - 1 - 1 ≡ place - 2 = omega (arith, some) in
            record {
              us = ((get_or s.steps (get_or column (place - 1) 0) no_step).source, u) ∷ step.0;
              is = step.3 ∙ ap (option_map (λ w. ((get_or s.steps (get_or column (place - 1) 0) no_step).source, w) ∷ step.0)) found;
              ahead =
                  ap (price_ahead ((((get_or s.steps (get_or column (place - 1) 0) no_step).source, u) ∷ step.0) ++ known.nodes))
                  (ap (λ n. (get_or s.steps (get_or column n 0) no_step).target) before ∙ chain (place - 2) (omega (arith, some, within)) ∙ ap (λ n. Some (get_or s.steps (get_or column n 0) no_step).source) (sym k))
                  ∙ ap (λ b. if b then u else price_of (step.0 ++ known.nodes) (get_or s.steps (get_or column (place - 1) 0) no_step).source)
                  (eq-eqb (get_or s.steps (get_or column (place - 1) 0) no_step).source (get_or s.steps (get_or column (place - 1) 0) no_step).source refl)
                  ∙ sym same;
              knows = λ rest before_known.
                  let known_now = step.2 rest before_known in
                  known_set s.nodes (get_or s.steps (get_or column (place - 1) 0) no_step).source u now new (step.0 ++ rest) known_now inside made;
            };
      }
    where
      known_set : (nodes q : ℕ) (u : ℤ) (now new : List ℤ) (list : List (ℕ × ℤ)) → AreKnown nodes now list → q < length now → new ≡ set now q u → AreKnown nodes new ((q, u) ∷ list)
      known_set nodes q u now new list known inside made =
          record {
            counted = ap length made ∙ length-set now q u ∙ known.counted;
            each = λ r few.
                ⊎_elim
                (λ (e : q ≡ r). ap (λ l. get_or l r (pos 0)) made ∙ subst (λ n. get_or (set now q u) n (pos 0) ≡ u) e (get_or-set_same now q u (pos 0) inside) ∙ sym (ap (λ b. if b then u else price_of list r) (eq-eqb q r e)))
                (λ (e : q ≡ r → ⊥). ap (λ l. get_or l r (pos 0)) made ∙ get_or-set_other now q r u (pos 0) (λ f. e (sym f)) ∙ known.each r few ∙ sym (ap (λ b. if b then u else price_of list r) (ne_eqb q r e)))
                (cases_eq q r);
          }

pub chain_end : (s : System) (scale : ℤ) (p : code.KnownPrices) (column : List ℕ) (place : ℕ) (next : ℤ) (old now : List ℤ) → IsChained s scale p column place next old now → place ≤ 1
    → (known : RowPrices) → ArePriced s known p → Learns s.nodes (chain_potentials s scale known (drop 1 column)) (Some tt) old now
chain_end s scale p column place next old now is few known priced =
    let rest = is.learnt known priced in
    let one : place ≡ 1 = omega (arith, few, is.some) in
    subst (λ (o : Option (List (ℕ × ℤ))). Learns s.nodes o (Some tt) old now) (sym (ap (λ n. chain_potentials s scale known (drop n column)) (sym one) ∙ rest.is)) (refl, rest.knows)

pub chain_begin : (s : System) (scale : ℤ) (p : code.KnownPrices) (column : List ℕ) (old : List ℤ) (place : ℕ) (next : ℤ) → 0 < place → place ≡ length column
    → ((known : RowPrices) → ArePriced s known p → price_ahead known.nodes (get_or s.steps (get_or column (place - 1) 0) no_step).target ≡ next) → IsChained s scale p column place next old old
chain_begin s scale p column old place next some is ahead =
    record {
      some = some;
      counted = refl;
      learnt = λ known priced.
          record {
            us = [];
            is = ap (chain_potentials s scale known) (drop_all place column (omega (arith, is)));
            ahead = ahead known priced;
            knows = λ rest known_rest. known_rest;
          };
    }

pub ahead_known : (s : System) (p : code.KnownPrices) (nodes_now : List ℤ) (o : Option ℕ) (v : ℤ) → nodes_now ≡ p.nodes.items → IfSome o (λ q. q < s.nodes) → v ≡ ahead_in nodes_now o → (known : RowPrices) → ArePriced s known p → price_ahead known.nodes o ≡ v
ahead_known s p nodes_now None v same inside is known priced = sym is
ahead_known s p nodes_now (Some q) v same inside is known priced = sym (is ∙ ap (λ l. get_or l q (pos 0)) same ∙ priced.nodes q inside)

-- All columns, from the last one back.
module _ (s : System) (scale : ℤ) (p : code.KnownPrices) (columns : List (List ℕ)) (place : ℕ) (now new : List ℤ) (column column_now : List ℕ) (o : Option (Unit {0})) (so_far : AreInner s scale p columns place now) (some : 0 < place)
    (within : place ≤ length columns) (same : column_now ≡ column) (is : column ≡ get_or columns (place - 1) column)
    (learns : (known : RowPrices) → ArePriced s known p → Learns s.nodes (chain_potentials s scale known (drop 1 column_now)) o now new) where
  columns_back : drop (place - 1) columns ≡ column ∷ drop place columns
  columns_back =
      let one : place - 1 + 1 ≡ place = omega (arith, some) in
      drop_more columns (place - 1) column (omega (arith, some, within)) ∙ ap₂ (λ x n. x ∷ drop n columns) (sym is) one

  inner_at : (known : RowPrices) → ArePriced s known p → (us : List (ℕ × ℤ)) × (AreKnown s.nodes now us)
      × (inner_potentials s scale known (drop (place - 1) columns) ≡ option_and_then (λ vs. Some (vs ++ us)) (chain_potentials s scale known (drop 1 column_now)))
  inner_at known priced =
      let rest = so_far.learnt known priced in (
        rest.us,
        rest.knows,
        ap (inner_potentials s scale known) columns_back
            ∙ ap₂ (λ (l : Option (List (ℕ × ℤ))) c. option_and_then (λ vs. option_map (λ more. vs ++ more) l) (chain_potentials s scale known (drop 1 c))) rest.is (sym same),
      )

  none_columns : (known : RowPrices) (n : ℕ) → inner_potentials s scale known (drop n columns) ≡ None → inner_potentials s scale known columns ≡ None
  none_columns known zero none = none
  none_columns known (suc n) none = none_columns known n (by (nat_lt n (length columns)) refl)
    where
      one : suc n ≡ n + 1
      one = omega arith

      stops : (o : Option (List (ℕ × ℤ))) → option_and_then (λ vs. option_map (λ more. vs ++ more) None) o ≡ None
      stops None = refl
      stops (Some vs) = refl

      by : (b : Bool) → nat_lt n (length columns) ≡ b → inner_potentials s scale known (drop n columns) ≡ None
      by true e =
          let few : n < length columns = grind (arith, nat_tests) in
          ap (inner_potentials s scale known) (drop_more columns n [] few)
          ∙ ap (λ l. option_and_then (λ vs. option_map (λ more. vs ++ more) l) (chain_potentials s scale known (drop 1 (get_or columns n [])))) (ap (λ m. inner_potentials s scale known (drop m columns)) (sym one) ∙ none)
          ∙ stops (chain_potentials s scale known (drop 1 (get_or columns n [])))
      by false e =
          let far : length columns ≤ n = grind (arith, nat_tests) in
          absurd (some_none [] (sym (ap (inner_potentials s scale known) (drop_all (suc n) columns (omega (arith, far)))) ∙ none))

  pub inner_stop : o ≡ None → (known : RowPrices) → ArePriced s known p → IsKnownAs s.nodes (inner_potentials s scale known columns) None
  inner_stop stopped known priced =
      let at = inner_at known priced in
      by (chain_potentials s scale known (drop 1 column_now)) refl (learns known priced) at.2
    where
      by : (q : Option (List (ℕ × ℤ))) → chain_potentials s scale known (drop 1 column_now) ≡ q → Learns s.nodes q o now new → inner_potentials s scale known (drop (place - 1) columns) ≡ option_and_then (λ vs. Some (vs ++ (inner_at known priced).0)) q
          → IsKnownAs s.nodes (inner_potentials s scale known columns) None
      by None e l f = subst (λ (x : Option (List (ℕ × ℤ))). IsKnownAs s.nodes x None) (sym (none_columns known (place - 1) f)) refl
      by (Some vs) e l f = absurd (some_none tt (sym l.0 ∙ stopped))

  pub inner_more : (u : Unit {0}) → o ≡ Some u → length new ≡ length now → AreInner s scale p columns (place - 1) new
  inner_more u done kept =
      record {
        counted = kept ∙ so_far.counted;
        learnt = λ known priced. by known (chain_potentials s scale known (drop 1 column_now)) (learns known priced) (inner_at known priced).0 (inner_at known priced).1 (inner_at known priced).2;
      }
    where
      by : (known : RowPrices) (q : Option (List (ℕ × ℤ))) → Learns s.nodes q o now new → (us : List (ℕ × ℤ)) → AreKnown s.nodes now us → inner_potentials s scale known (drop (place - 1) columns) ≡ option_and_then (λ vs. Some (vs ++ us)) q
          → AreInnerFor s scale known columns (place - 1) new
      by known None l us k f = absurd (some_none u (sym done ∙ l))
      by known (Some vs) l us k f = record { us = vs ++ us; is = f; knows = l.1 us k }

pub inner_end : (s : System) (scale : ℤ) (p : code.KnownPrices) (columns : List (List ℕ)) (place : ℕ) (inner : List ℤ) → AreInner s scale p columns place inner → place ≤ 0
    → (known : RowPrices) → ArePriced s known p → IsKnownAs s.nodes (inner_potentials s scale known columns) (Some inner)
inner_end s scale p columns place inner is none known priced =
    let rest = is.learnt known priced in
    let zero_place : place ≡ 0 = omega (arith, none) in
    subst (λ (x : Option (List (ℕ × ℤ))). IsKnownAs s.nodes x (Some inner)) (sym (ap (λ n. inner_potentials s scale known (drop n columns)) (sym zero_place) ∙ rest.is)) rest.knows

pub inner_begin : (s : System) (scale : ℤ) (p : code.KnownPrices) (columns : List (List ℕ)) (place : ℕ) (inner : List ℤ) → inner ≡ replicate s.nodes (pos 0) → place ≡ length columns → AreInner s scale p columns place inner
inner_begin s scale p columns place inner is at =
    record {
      counted = ap length is ∙ length-replicate s.nodes (pos 0);
      learnt = λ known priced.
          record {
            us = [];
            is = ap (inner_potentials s scale known) (drop_all place columns (omega (arith, at)));
            knows = record { counted = ap length is ∙ length-replicate s.nodes (pos 0); each = λ q within. ap (λ l. get_or l q (pos 0)) is ∙ get_or-replicate s.nodes q (pos 0) (pos 0) within };
          };
    }
