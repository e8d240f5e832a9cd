-- Numbers at the columns that solve the first rows are feasible counts of the steps.
use Rattle.std.proofs.Common.{◌≡◌, ℕ, zero, suc, ◌+◌, ◌-◌, ◌<◌, ◌≤◌, ◌==◌, ◌||◌, not, ℤ, pos, ◌+ℤ◌, ◌-ℤ◌, ◌*ℤ◌, neg_ℤ, ◌≤ℤ◌, ◌<ℤ◌, Bool, true, false, if◌then◌else◌, List, [], ◌∷◌, ◌++◌, map, get_or, replicate, length, inl, inr, ◌⊎◌, Option, None, Some, option_and_then, option_map, refl, sym, ap, ap₂, subst, ◌∙◌, arith}
use Rattle.std.specs.Prelude.{IfSome, slice_get}
use Rattle.std.specs.List.{All, AllByRecursion, filter, range_with_len}
use Rattle.std.proofs.Math.IntN.{*ℤ-zero, zero-*ℤ, *ℤ_comm}
use Rattle.std.proofs.lemmas.Bool.{cases_eq, eq-eqb, ne_eqb, or_parts}
use Rattle.std.proofs.lemmas.Int.{ints}
use Rattle.std.proofs.lemmas.List.{length-append, length-map, length-replicate}
use Rattle.std.proofs.lemmas.List.FromFn.{length-range_with_len}
use Rattle.std.proofs.lemmas.Option.{get_or_from_slice_get, same_Some, slice_get-get_or, slice_get_within}
use Rattle.wc_base.specs.Sums.{chosen, sum_in, sum_placed}
use Rattle.wc_base.proofs.EachLemmas.{each_parts}
use Rattle.wc_base.proofs.Products.{exchange, neg_times, spread_left, spread_sub, times_neg, times_one}
use Rattle.wc_base.proofs.SumLemmas.{sum_add, sum_less, sum_pick, sum_same, sum_scale, sum_zero}
use Rattle.wc_base.proofs.TestLemmas.{if_false, if_true}
use Rattle.wc_dual.proofs.DualityLemmas.{factor_apart, get_all, same_number, sum_listed, times_chosen, turned}
use Rattle.wc_model.specs.declared.flow_system.System.{System}
use Rattle.wc_model.specs.declared.flow_system.SystemLimit.{SystemLimit}
use Rattle.wc_model.specs.declared.flow_system.SystemLoop.{SystemLoop}
use Rattle.wc_model.specs.declared.flow_system.SystemStep.{SystemStep}
use Rattle.wc_model.specs.Flow.Cells.{columns_of, is_passed, next_of, row_nodes}
use Rattle.wc_model.specs.Flow.Certificates.{factor_of}
use Rattle.wc_model.specs.Flow.Counts.{IsBounded, IsFeasible, IsLimited, cycles, into, out_of, value_of}
use Rattle.wc_model.specs.Flow.Exact.{each_of, negate_exact}
use Rattle.wc_model.specs.Flow.Places.{IsOnce, is_listed}
use Rattle.wc_model.specs.Flow.RowResults as results
use Rattle.wc_model.specs.Flow.Systems.{IsSystem, leads_to}
use Rattle.wc_model.specs.Flow.Tableaus.{Half, Line, column_cost, column_entry, count_slacks, limit_line, lines_of, loop_line, node_line, no_step, one_if, slack_entries, step_entry, unit_row, whole_row, whole_rows}
use Rattle.wc_simplex.specs.Solutions.{AllZero, weighs}
use Rattle.wc_simplex.proofs.ChainLemmas.{IsFirst, IsNext, IsOnFrom, IsPassed, entry_is, exit_is, exit_leaves, next_injective, next_is, next_there, passed_is, step_at}
use Rattle.wc_simplex.proofs.ExactLemmas.{kept_is}
use Rattle.wc_simplex.proofs.LineSums.{sum_is}
use Rattle.wc_simplex.proofs.PartitionLemmas.{IsRun, RunsFrom, columns_carry, flat, once, over_columns, runs_each, sum_flat}
use Rattle.wc_simplex.proofs.StartLemmas.{AreHalves, IsHalf, each_length, turn}
use Rattle.wc_simplex.proofs.WeighLemmas.{weighs_append, weighs_unit_row, weighs_zeros}

-- weights of exact sums by column
pub weighs_each : (f : List ℕ → Option ℤ) (g : ℕ → ℤ) (c : ℕ → ℤ) (k : ℕ) (columns : List (List ℕ)) (entries : List ℤ) → ((column : List ℕ) (v : ℤ) → f column ≡ Some v → v ≡ sum_in g column)
    → each_of f columns ≡ Some entries → weighs c k entries ≡ over_columns c g k columns
weighs_each f g c k [] entries sums is = ap (weighs c k) (sym (same_Some [] entries is))
weighs_each f g c k (column ∷ columns) entries sums is = by (f column) refl (each_of f columns) refl is (λ es e. weighs_each f g c (suc k) columns es sums e)
  where
    by : (o : Option ℤ) → f column ≡ o → (l : Option (List ℤ)) → each_of f columns ≡ l → option_and_then (λ y. option_map (λ ys. y ∷ ys) l) o ≡ Some entries
        → ((es : List ℤ) → each_of f columns ≡ Some es → weighs c (suc k) es ≡ over_columns c g (suc k) columns)
        → weighs c k entries ≡ c k *ℤ sum_in g column +ℤ over_columns c g (suc k) columns
    by None p l q e go = absurd (cc)
    by (Some v) p None q e go = absurd (cc)
    by (Some v) p (Some es) q e go =
        ap (weighs c k) (sym (same_Some (v ∷ es) entries e)) ∙ ap₂ (λ a b. c k *ℤ a +ℤ b) (sums column v p) (go es q)

entry_value : (s : System) (l : Line) (column : List ℕ) (v : ℤ) → column_entry s l column ≡ Some v → v ≡ sum_in (step_entry s l) column
entry_value s l column v is = omega (arith, ints, sum_is (step_entry s l) (pos 0) column v is)

turn_zero : (b : Bool) (e side den : ℤ) → turn b e +ℤ neg_ℤ den *ℤ turn b side ≡ pos 0 → e ≡ den *ℤ side
turn_zero true e side den is = omega (arith, ints, is, times_neg (neg_ℤ den) side, neg_times den side)
turn_zero false e side den is = omega (arith, ints, is, neg_times den side)

-- One row, as what its line says of the counts. `at` is the place of its artificial column.
module _ (s : System) (columns : List (List ℕ)) (slacks n : ℕ) (c : ℕ → ℤ) (den : ℤ) (arts : (k : ℕ) → k < n → c (length columns + slacks + k) ≡ pos 0)
    (side : c (length columns + slacks + n) ≡ neg_ℤ den) (some : (j : ℕ) → j < length columns + slacks → pos 0 ≤ℤ c j) where
  abbrev real : ℕ
  real = length columns + slacks

  slack_value : (own : ℕ) (b : Bool) → own < slacks ⊎ b ≡ false → weighs c (length columns) (slack_entries slacks own b) ≡ (if b then c (length columns + own) else pos 0)
  slack_value own true (inl within) = weighs_unit_row c (length columns) slacks own within
  slack_value own true (inr wrong) = absurd (cc)
  slack_value own false is = weighs_zeros c (length columns) slacks

  row_value : (place own : ℕ) (l : Line) (h : Half) → place < n → own < slacks ⊎ l.slack ≡ false → IsHalf s columns slacks own l h → weighs c 0 (whole_row n place h) ≡ pos 0
      → over_columns c (step_entry s l) 0 columns +ℤ (if l.slack then c (length columns + own) else pos 0) ≡ den *ℤ l.side
  row_value place own l h within owns is zeros =
      turn_zero h.negated (over_columns c (step_entry s l) 0 columns +ℤ (if l.slack then c (length columns + own) else pos 0)) l.side den
      (omega (
        arith,
        ints,
        zeros,
        weighs_append c 0 (h.real ++ unit_row n place) (h.side ∷ pos 0 ∷ []),
        weighs_append c 0 h.real (unit_row n place),
        is.weighed c 0,
        ap (turn h.negated) inner,
        ap (λ k. weighs c k (unit_row n place)) (none_add h.real ∙ is.wide),
        weighs_unit_row c (length columns + slacks) n place within,
        arts place within,
        ap (λ k. weighs c k (h.side ∷ pos 0 ∷ [])) (none_add (h.real ++ unit_row n place) ∙ wide),
        ap₂ (λ a b. a *ℤ b) side is.side,
        *ℤ-zero (c (suc (length columns + slacks + n))),
      ))
    where
      none_add : (xs : List ℤ) → 0 + length xs ≡ length xs
      none_add xs = omega arith

      wide : length (h.real ++ unit_row n place) ≡ length columns + slacks + n
      wide = length-append h.real (unit_row n place) ∙ ap₂ (λ a b. a + b) is.wide (unit_count n place)
        where
          unit_count : (n own : ℕ) → length (unit_row n own) ≡ n
          unit_count n own = length-map (range_with_len 0 n) (λ k. one_if (k == own)) ∙ length-range_with_len 0 n

      inner : weighs c 0 (is.entries ++ slack_entries slacks own l.slack) ≡ over_columns c (step_entry s l) 0 columns +ℤ (if l.slack then c (length columns + own) else pos 0)
      inner =
          weighs_append c 0 is.entries (slack_entries slacks own l.slack)
          ∙ ap₂ (λ a b. a +ℤ b) (weighs_each (column_entry s l) (step_entry s l) c 0 columns is.entries (entry_value s l) is.are)
          (ap (λ k. weighs c k (slack_entries slacks own l.slack)) (none_add is.entries ∙ each_length (column_entry s l) columns is.entries is.are) ∙ slack_value own l.slack owns)

  -- what a line says
  abbrev pub LineHolds : Line → Type 0
  LineHolds l =
      (l.slack ≡ false → over_columns c (step_entry s l) 0 columns ≡ den *ℤ l.side) × (l.slack ≡ true → over_columns c (step_entry s l) 0 columns ≤ℤ (den *ℤ l.side))

  line_holds : (own : ℕ) (l : Line) → own < slacks ⊎ l.slack ≡ false → over_columns c (step_entry s l) 0 columns +ℤ (if l.slack then c (length columns + own) else pos 0) ≡ den *ℤ l.side → LineHolds l
  line_holds own l owns is =
      (λ none. omega (arith, ints, is, ap (λ b. if b then c (length columns + own) else pos 0) none), λ slack. by slack owns)
    where
      by : l.slack ≡ true → own < slacks ⊎ l.slack ≡ false → over_columns c (step_entry s l) 0 columns ≤ℤ (den *ℤ l.side)
      by slack (inl within) = omega (arith, ints, is, ap (λ b. if b then c (length columns + own) else pos 0) slack, some (length columns + own) (omega (arith, within)))
      by slack (inr none) = absurd (cc)

  pub lines_hold : (place own : ℕ) (ls : List Line) (hs : List Half) → place + length hs ≡ n → own + count_slacks ls ≤ slacks → AreHalves s columns slacks own ls hs
      → AllZero (weighs c 0) (whole_rows n place hs) → AllByRecursion LineHolds ls
  lines_hold place own [] [] count few are zeros = tt
  lines_hold place own [] (h ∷ hs) count few are zeros = absurd are
  lines_hold place own (l ∷ ls) [] count few are zeros = absurd are
  lines_hold place own (l ∷ ls) (h ∷ hs) count few are zeros =
      let owns = by l.slack refl few in (
        line_holds own l owns (row_value place own l h (omega (arith, count)) owns are.0 zeros.0),
        lines_hold (suc place) (if l.slack then suc own else own) ls hs (omega (arith, count)) (next l.slack few) are.1 zeros.1,
      )
    where
      by : (b : Bool) → l.slack ≡ b → own + (if b then suc (count_slacks ls) else count_slacks ls) ≤ slacks → own < slacks ⊎ l.slack ≡ false
      by true is fits = inl (omega (arith, fits))
      by false is fits = inr is

      next : (b : Bool) → own + (if b then suc (count_slacks ls) else count_slacks ls) ≤ slacks → (if b then suc own else own) + count_slacks ls ≤ slacks
      next true fits = omega (arith, fits)
      next false fits = fits

-- Steps in a row have one column.
module _ (s : System) (i k : ℕ) (next : next_of s i ≡ Some k) where
  wrong_bool : (b : Bool) → b ≡ true → b ≡ false → ⊥
  wrong_bool true p q = cc
  wrong_bool false p q = cc

  run_after : (m : ℕ) (later : List ℕ) → RunsFrom s m later → is_listed i (m ∷ later) ≡ true → is_listed k later ≡ true
  run_after m [] runs listed = by (cases_eq i m)
    where
      none_some : None ≡ Some k → ⊥
      none_some e = cc

      by : (i ≡ m) ⊎ (i ≡ m → ⊥) → is_listed k [] ≡ true
      by (inl same) = absurd (none_some (sym runs ∙ ap (next_of s) (sym same) ∙ next))
      by (inr apart) = absurd (wrong_bool (i == m || false) listed (ap (λ b. b || false) (ne_eqb i m apart)))
  run_after m (j ∷ later) runs listed = by (cases_eq i m) (λ rest. run_after j later runs.1 rest)
    where
      by : (i ≡ m) ⊎ (i ≡ m → ⊥) → (is_listed i (j ∷ later) ≡ true → is_listed k later ≡ true) → is_listed k (j ∷ later) ≡ true
      by (inl same) go = ap (λ b. b || is_listed k later) (eq-eqb k j (same_Some k j (sym next ∙ ap (next_of s) same ∙ runs.0)))
      by (inr apart) go = or_right (k == j) (is_listed k later) (go (ap (λ b. b || is_listed i (j ∷ later)) (sym (ne_eqb i m apart)) ∙ listed))
        where
          or_right : (a b : Bool) → b ≡ true → (a || b) ≡ true
          or_right true b e = refl
          or_right false b e = e

  run_before : (m : ℕ) (later : List ℕ) → RunsFrom s m later → is_listed k later ≡ true → is_listed i (m ∷ later) ≡ true
  run_before m [] runs listed = absurd (cc)
  run_before m (j ∷ later) runs listed = by (cases_eq k j) (λ rest. run_before j later runs.1 rest)
    where
      or_right : (a b : Bool) → b ≡ true → (a || b) ≡ true
      or_right true b e = refl
      or_right false b e = e

      by : (k ≡ j) ⊎ (k ≡ j → ⊥) → (is_listed k later ≡ true → is_listed i (j ∷ later) ≡ true) → is_listed i (m ∷ j ∷ later) ≡ true
      by (inl same) go = ap (λ b. b || is_listed i (j ∷ later)) (eq-eqb i m (next_injective s i m k next (runs.0 ∙ ap Some (sym same))))
      by (inr apart) go = or_right (i == m) (is_listed i (j ∷ later)) (go (ap (λ b. b || is_listed k later) (sym (ne_eqb k j apart)) ∙ listed))

  column_same : (column : List ℕ) → IsRun s column → is_listed i column ≡ is_listed k column
  column_same column run = by (is_listed i column) refl (is_listed k column) refl
    where
      at : (n : ℕ) → is_listed n column ≡ is_listed n (run.first ∷ run.later)
      at n = ap (is_listed n) run.is

      not_first : k ≡ run.first → ⊥
      not_first same = wrong_bool (is_passed s (step_at s k).source) (next_is s i k next).passes (ap (λ n. is_passed s (step_at s n).source) same ∙ run.is_first.1)

      by : (a : Bool) → is_listed i column ≡ a → (b : Bool) → is_listed k column ≡ b → a ≡ b
      by true p true q = refl
      by false p false q = refl
      by true p false q =
          let later = run_after run.first run.later run.runs (sym (at i) ∙ p) in
          absurd (wrong_bool (is_listed k (run.first ∷ run.later)) (ap (λ b. b || is_listed k run.later) (ne_eqb k run.first not_first) ∙ later) (sym (at k) ∙ q))
      by false p true q =
          let later : is_listed k run.later ≡ true = ap (λ b. b || is_listed k run.later) (sym (ne_eqb k run.first not_first)) ∙ sym (at k) ∙ q in
          absurd (wrong_bool (is_listed i (run.first ∷ run.later)) (run_before run.first run.later run.runs later) (sym (at i) ∙ p))

  pub same_column : (j : ℕ) (columns : List (List ℕ)) → AllByRecursion (IsRun s) columns → results.column_of i j columns ≡ results.column_of k j columns
  same_column j [] runs = refl
  same_column j (column ∷ columns) runs =
      ap₂ (λ (b : Bool) n. if b then j else n) (column_same column runs.0) (same_column (suc j) columns runs.1)

-- Sums over the steps, of the lines of the system.
times_if : (b : Bool) (x : ℤ) → x *ℤ one_if b ≡ chosen b x
times_if true x = times_one x
times_if false x = *ℤ-zero x

module _ (s : System) (x : ℕ → ℤ) where
  abbrev pub total : Line → ℤ
  total l = sum_placed (λ i _. x i *ℤ step_entry s l i) s.steps

  pub step_is : (i : ℕ) (t : SystemStep) → slice_get s.steps i ≡ Some t → step_at s i ≡ t
  step_is i t at = get_or_from_slice_get s.steps i t no_step at

  pub node_total : (q : ℕ) → total (node_line s q) ≡ out_of s.steps x q -ℤ into s.steps x q
  node_total q =
      sum_same (λ i _. x i *ℤ step_entry s (node_line s q) i) (λ i t. chosen (t.source == q) (x i) -ℤ chosen (leads_to t.target q) (x i)) s.steps
      (λ i t at. ap (λ (u : SystemStep). x i *ℤ (one_if (u.source == q) -ℤ one_if (leads_to u.target q))) (step_is i t at)
      ∙ spread_sub (x i) (one_if (t.source == q)) (one_if (leads_to t.target q))
      ∙ ap₂ (λ a b. a -ℤ b) (times_if (t.source == q) (x i)) (times_if (leads_to t.target q) (x i)))
      ∙ sum_less (λ i t. chosen (t.source == q) (x i)) (λ i t. chosen (leads_to t.target q) (x i)) s.steps

  times_bound : (b : Bool) (n y : ℤ) → y *ℤ (if b then n else pos 0) ≡ n *ℤ chosen b y
  times_bound true n y = *ℤ_comm y n
  times_bound false n y = *ℤ-zero y ∙ sym (*ℤ-zero n)

  pub loop_total : (l : SystemLoop) → All (λ i. i < length s.steps) l.back → IsOnce l.back → All (λ i. i < length s.steps) l.entry → IsOnce l.entry
      → total (loop_line s l) ≡ sum_in x l.back -ℤ pos l.bound *ℤ sum_in x l.entry
  loop_total l back once_back entry once_entry =
      sum_same (λ i _. x i *ℤ step_entry s (loop_line s l) i) (λ i _. chosen (is_listed i l.back) (x i) -ℤ pos l.bound *ℤ chosen (is_listed i l.entry) (x i)) s.steps
      (λ i t at. spread_sub (x i) (one_if (is_listed i l.back)) (if is_listed i l.entry then pos l.bound else pos 0)
      ∙ ap₂ (λ a b. a -ℤ b) (times_if (is_listed i l.back) (x i)) (times_bound (is_listed i l.entry) (pos l.bound) (x i)))
      ∙ sum_less (λ i _. chosen (is_listed i l.back) (x i)) (λ i _. pos l.bound *ℤ chosen (is_listed i l.entry) (x i)) s.steps
      ∙ ap₂ (λ a b. a -ℤ b) (sum_listed x s.steps l.back back once_back)
      (sum_scale (pos l.bound) (λ i _. chosen (is_listed i l.entry) (x i)) s.steps ∙ ap (λ z. pos l.bound *ℤ z) (sum_listed x s.steps l.entry entry once_entry))

  factor_total : (fs : List (ℕ × ℤ)) → IsOnce (map (λ f. f.0) fs) → sum_placed (λ i t. x i *ℤ factor_of t.source fs) s.steps ≡ sum_in (λ f. f.1 *ℤ out_of s.steps x f.0) fs
  factor_total [] all = sum_zero (λ i t. x i *ℤ pos 0) s.steps (λ i t at. *ℤ-zero (x i))
  factor_total (f ∷ fs) all =
      sum_same (λ i t. x i *ℤ factor_of t.source (f ∷ fs)) (λ i t. f.1 *ℤ chosen (t.source == f.0) (x i) +ℤ x i *ℤ factor_of t.source fs) s.steps
      (λ i t at. ap (λ z. x i *ℤ z) (factor_apart t.source f fs all.0) ∙ spread_left (x i) (chosen (f.0 == t.source) f.1) (factor_of t.source fs)
      ∙ ap (λ z. z +ℤ x i *ℤ factor_of t.source fs) (swap (f.0 == t.source) (x i) f.1 ∙ ap (λ b. f.1 *ℤ chosen b (x i)) (turned t.source f.0)))
      ∙ sum_add (λ i t. f.1 *ℤ chosen (t.source == f.0) (x i)) (λ i t. x i *ℤ factor_of t.source fs) s.steps
      ∙ ap₂ (λ a b. a +ℤ b) (sum_scale f.1 (λ i t. chosen (t.source == f.0) (x i)) s.steps) (factor_total fs all.1)
    where
      swap : (b : Bool) (y z : ℤ) → y *ℤ chosen b z ≡ z *ℤ chosen b y
      swap true y z = *ℤ_comm y z
      swap false y z = *ℤ-zero y ∙ sym (*ℤ-zero z)

  pub limit_total : (l : SystemLimit) → IsOnce (map (λ f. f.0) l.factors) → total (limit_line l) ≡ sum_in (λ f. f.1 *ℤ out_of s.steps x f.0) l.factors
  limit_total l all =
      sum_same (λ i _. x i *ℤ step_entry s (limit_line l) i) (λ i t. x i *ℤ factor_of t.source l.factors) s.steps
      (λ i t at. ap (λ (u : SystemStep). x i *ℤ factor_of u.source l.factors) (step_is i t at))
      ∙ factor_total l.factors all

  -- a node that is passed through
  pub passed_balance : (q : ℕ) (p : IsPassed s q) → x p.entry ≡ x p.exit → p.entry < length s.steps → (step_at s p.entry).target ≡ Some q → out_of s.steps x q -ℤ into s.steps x q ≡ pos 0
  passed_balance q p same within leads =
      let leaves = exit_leaves s q p in
      let out =
      sum_same (λ i t. chosen (t.source == q) (x i)) (λ i t. chosen (p.exit == i) (x i)) s.steps (λ i t at. ap (λ b. chosen b (x i)) (out_by i t at (cases_eq p.exit i)))
      ∙ sum_pick (λ i t. x i) s.steps p.exit (step_at s p.exit) (slice_get-get_or s.steps p.exit no_step leaves.0) in
      let in_ =
      sum_same (λ i t. chosen (leads_to t.target q) (x i)) (λ i t. chosen (p.entry == i) (x i)) s.steps (λ i t at. ap (λ b. chosen b (x i)) (in_by i t at (cases_eq p.entry i)))
      ∙ sum_pick (λ i t. x i) s.steps p.entry (step_at s p.entry) (slice_get-get_or s.steps p.entry no_step within) in
      omega (arith, ints, out, in_, same)
    where
      not_true : (b : Bool) → (b ≡ true → ⊥) → b ≡ false
      not_true true e = absurd (e refl)
      not_true false e = refl

      out_by : (i : ℕ) (t : SystemStep) → slice_get s.steps i ≡ Some t → (p.exit ≡ i) ⊎ (p.exit ≡ i → ⊥) → (t.source == q) ≡ (p.exit == i)
      out_by i t at (inl e) =
          eq-eqb t.source q (ap (λ (u : SystemStep). u.source) (sym (step_is i t at)) ∙ ap (λ n. (step_at s n).source) (sym e) ∙ (exit_leaves s q p).1) ∙ sym (eq-eqb p.exit i e)
      out_by i t at (inr e) =
          ne_eqb t.source q (λ f. e (sym (exit_is s q i p (slice_get_within s.steps i t at) (ap (λ (u : SystemStep). u.source) (step_is i t at) ∙ f)))) ∙ sym (ne_eqb p.exit i e)

      leads_there : (o : Option ℕ) → o ≡ Some q → leads_to o q ≡ true
      leads_there None e = absurd (cc)
      leads_there (Some r) e = eq-eqb r q (same_Some r q e)

      leads_some : (o : Option ℕ) → leads_to o q ≡ true → o ≡ Some q
      leads_some None e = absurd (cc)
      leads_some (Some r) e = ap Some (same_number q r e)

      in_by : (i : ℕ) (t : SystemStep) → slice_get s.steps i ≡ Some t → (p.entry ≡ i) ⊎ (p.entry ≡ i → ⊥) → leads_to t.target q ≡ (p.entry == i)
      in_by i t at (inl e) =
          leads_there t.target (ap (λ (u : SystemStep). u.target) (sym (step_is i t at)) ∙ ap (λ n. (step_at s n).target) (sym e) ∙ leads) ∙ sym (eq-eqb p.entry i e)
      in_by i t at (inr e) =
          not_true (leads_to t.target q) (λ f. e (sym (entry_is s q i p (slice_get_within s.steps i t at) (ap (λ (u : SystemStep). u.target) (step_is i t at) ∙ leads_some t.target f)))) ∙ sym (ne_eqb p.entry i e)
