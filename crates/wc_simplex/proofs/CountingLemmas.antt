-- Numbers that solve the first rows are feasible counts, and the second goal row weighs their value.
use Rattle.std.proofs.Common.{◌≡◌, ℕ, zero, suc, ◌+◌, ◌-◌, ◌<◌, ◌≤◌, ◌==◌, ◌||◌, not, ℤ, pos, ◌+ℤ◌, ◌-ℤ◌, ◌*ℤ◌, neg_ℤ, ◌≤ℤ◌, ◌<ℤ◌, Bool, true, false, if◌then◌else◌, List, [], ◌∷◌, ◌++◌, map, get_or, replicate, length, inl, inr, ◌⊎◌, Option, None, Some, option_and_then, refl, sym, ap, ap₂, subst, ◌∙◌, arith}
use Rattle.std.specs.Prelude.{IfSome, slice_get}
use Rattle.std.specs.List.{All, AllByRecursion, filter, range_with_len}
use Rattle.std.proofs.Math.IntN.{*ℤ-zero, zero-*ℤ, *ℤ_comm}
use Rattle.std.proofs.lemmas.Bool.{cases_eq, eq-eqb, ne_eqb}
use Rattle.std.proofs.lemmas.Int.{ints}
use Rattle.std.proofs.lemmas.List.{append_assoc, length-append, length-replicate}
use Rattle.std.proofs.lemmas.Option.{slice_get_within}
use Rattle.wc_base.specs.Sums.{chosen, sum_in, sum_placed}
use Rattle.wc_base.proofs.EachLemmas.{each_parts}
use Rattle.wc_base.proofs.Products.{exchange, neg_times, spread_left, spread_sub, times_neg, times_one}
use Rattle.wc_base.proofs.SumLemmas.{sum_same}
use Rattle.wc_dual.proofs.DualityLemmas.{same_number, turned}
use Rattle.wc_model.specs.declared.flow_system.System.{System}
use Rattle.wc_model.specs.declared.flow_system.SystemLimit.{SystemLimit}
use Rattle.wc_model.specs.declared.flow_system.SystemLoop.{SystemLoop}
use Rattle.wc_model.specs.declared.flow_system.SystemStep.{SystemStep}
use Rattle.wc_model.specs.Flow.Cells.{columns_of, is_passed, next_of, row_nodes}
use Rattle.wc_model.specs.Flow.Counts.{IsBounded, IsFeasible, IsLimited, cycles, into, out_of, value_of}
use Rattle.wc_model.specs.Flow.Exact.{each_of, negate_exact}
use Rattle.wc_model.specs.Flow.Places.{IsOnce, is_listed}
use Rattle.wc_model.specs.Flow.RowMachine.{entry}
use Rattle.wc_model.specs.Flow.RowResults as results
use Rattle.wc_model.specs.Flow.Systems.{IsSystem}
use Rattle.wc_model.specs.Flow.Tableaus.{Half, Line, Start, column_cost, count_slacks, limit_line, lines_of, loop_line, node_line, no_step, one_if, step_entry, whole_rows}
use Rattle.wc_simplex.specs.Solutions.{AllZero, weighs}
use Rattle.wc_simplex.proofs.BeginLemmas.{IsStart, IsStartOf}
use Rattle.wc_simplex.proofs.ChainLemmas.{IsOnFrom, IsPassed, entry_leads, next_there, passed_is, step_at}
use Rattle.wc_simplex.proofs.ExactLemmas.{kept_is}
use Rattle.wc_simplex.proofs.FeasibleLemmas.{LineHolds, limit_total, lines_hold, loop_total, node_total, passed_balance, same_column, step_is, total, weighs_each}
use Rattle.wc_simplex.proofs.LineSums.{sum_is}
use Rattle.wc_simplex.proofs.PartitionLemmas.{columns_carry, flat, listed, once, over_columns, runs_each, sum_flat}
use Rattle.wc_simplex.proofs.StartLemmas.{AreHalves, each_length}
use Rattle.wc_simplex.proofs.WeighLemmas.{weighs_append, weighs_zeros}

-- What is asked of numbers at the columns, over a denominator.
pub record IsCounts (start : Start) (den : ℤ) (c : ℕ → ℤ) : Type 0 where
  pub some : (j : ℕ) → j < start.shape.real → pos 0 ≤ℤ c j
  pub arts : (k : ℕ) → start.shape.real + k < start.shape.right → c (start.shape.real + k) ≡ pos 0
  pub side : c start.shape.right ≡ neg_ℤ den
  pub own : c (suc start.shape.right) ≡ pos 0
  pub solves : AllZero (weighs c 0) start.first.rows

-- elements by their places
each_mapped : {X : Type 0} (P : Line → Type 0) (f : X → Line) (xs : List X) (i : ℕ) (d : X) → AllByRecursion P (map f xs) → i < length xs → P (f (get_or xs i d))
each_mapped P f [] i d all within = absurd (omega arith)
each_mapped P f (x ∷ xs) zero d all within = all.0
each_mapped P f (x ∷ xs) (suc i) d all within = each_mapped P f xs i d all.1 (omega arith)

node_among : (P : Line → Type 0) (s : System) (qs : List ℕ) (p : ℕ) → AllByRecursion P (map (node_line s) qs) → is_listed p qs ≡ true → P (node_line s p)
node_among P s [] p all among = absurd (cc)
node_among P s (q ∷ qs) p all among = by (cases_eq p q) (λ e. node_among P s qs p all.1 e)
  where
    by : (p ≡ q) ⊎ (p ≡ q → ⊥) → (is_listed p qs ≡ true → P (node_line s p)) → P (node_line s p)
    by (inl same) go = subst (λ n. P (node_line s n)) (sym same) all.0
    by (inr apart) go = go (ap (λ b. b || is_listed p qs) (sym (ne_eqb p q apart)) ∙ among)

pub range_kept : (p first n : ℕ) (keep : ℕ → Bool) → first ≤ p → p < first + n → keep p ≡ true → is_listed p (filter keep (range_with_len first n)) ≡ true
range_kept p first zero keep low high kept = absurd (omega (arith, low, high))
range_kept p first (suc n) keep low high kept = by (cases_eq p first) (λ more few. range_kept p (first + 1) n keep more few kept)
  where
    or_right : (a b : Bool) → b ≡ true → (a || b) ≡ true
    or_right true b e = refl
    or_right false b e = e

    with_first : (b : Bool) → is_listed p (filter keep (range_with_len (first + 1) n)) ≡ true
        → is_listed p (if b then first ∷ filter keep (range_with_len (first + 1) n) else filter keep (range_with_len (first + 1) n)) ≡ true
    with_first true later = or_right (p == first) (is_listed p (filter keep (range_with_len (first + 1) n))) later
    with_first false later = later

    own : (b : Bool) → keep first ≡ b → p ≡ first → is_listed p (if b then first ∷ filter keep (range_with_len (first + 1) n) else filter keep (range_with_len (first + 1) n)) ≡ true
    own true e same = ap (λ b. b || is_listed p (filter keep (range_with_len (first + 1) n))) (eq-eqb p first same)
    own false e same = absurd (wrong (keep first) e (ap keep (sym same) ∙ kept))
      where
        wrong : (b : Bool) → b ≡ false → b ≡ true → ⊥
        wrong true f g = cc
        wrong false f g = cc

    by : (p ≡ first) ⊎ (p ≡ first → ⊥) → (first + 1 ≤ p → p < first + 1 + n → is_listed p (filter keep (range_with_len (first + 1) n)) ≡ true)
        → is_listed p (if keep first then first ∷ filter keep (range_with_len (first + 1) n) else filter keep (range_with_len (first + 1) n)) ≡ true
    by (inl same) go = own (keep first) refl same
    by (inr apart) go = with_first (keep first) (go (omega (arith, low, apart)) (omega (arith, high)))

listed_later : (i : ℕ) (xs ys : List ℕ) → is_listed i (xs ++ ys) ≡ true → is_listed i xs ≡ false → is_listed i ys ≡ true
listed_later i [] ys e f = e
listed_later i (x ∷ xs) ys e f = or_split (i == x) (is_listed i (xs ++ ys)) (is_listed i xs) (is_listed i ys) e f (λ p q. listed_later i xs ys p q)
  where
    or_split : (a b c d : Bool) → (a || b) ≡ true → (a || c) ≡ false → (b ≡ true → c ≡ false → d ≡ true) → d ≡ true
    or_split true b c d p q go = absurd (cc)
    or_split false b c d p q go = go p q

pub column_within : (i k : ℕ) (columns : List (List ℕ)) → is_listed i (flat columns) ≡ true → results.column_of i k columns < k + length columns
column_within i k [] among = absurd (cc)
column_within i k (column ∷ columns) among = by (is_listed i column) refl (λ e. column_within i (suc k) columns e)
  where
    by : (b : Bool) → is_listed i column ≡ b → (is_listed i (flat columns) ≡ true → results.column_of i (suc k) columns < suc k + length columns) → (if b then k else results.column_of i (suc k) columns) < k + suc (length columns)
    by true e go = omega arith
    by false e go = omega (arith, go (listed_later i column (flat columns) among e))

-- a column's cost
pub cost_value : (s : System) (column : List ℕ) (v : ℤ) → option_and_then negate_exact (column_cost s column) ≡ Some v → v ≡ sum_in (λ i. neg_ℤ (pos (step_at s i).cost)) column
cost_value s column v is = by (column_cost s column) refl is
  where
    turned_sum : (xs : List ℕ) → neg_ℤ (sum_in (λ i. pos (step_at s i).cost) xs) ≡ sum_in (λ i. neg_ℤ (pos (step_at s i).cost)) xs
    turned_sum [] = refl
    turned_sum (x ∷ xs) = omega (arith, ints, turned_sum xs)

    by : (o : Option ℤ) → column_cost s column ≡ o → option_and_then negate_exact o ≡ Some v → v ≡ sum_in (λ i. neg_ℤ (pos (step_at s i).cost)) column
    by None p e = absurd (cc)
    by (Some sum) p e =
        omega (arith, ints, (kept_is (pos 0 -ℤ sum) v e).0, sum_is (λ i. pos (step_at s i).cost) (pos 0) column sum p, turned_sum column)

module _ (s : System) (sound : IsSystem s) (each : (k : ℕ) → k < length s.steps → IsOnFrom s k) (start : Start) (of : IsStartOf s (columns_of s) start) (den : ℤ) (c : ℕ → ℤ) (is : IsCounts start den c) where
  abbrev x : ℕ → ℤ
  x i = c (results.column_of i 0 (columns_of s))

  columns_total : (g : ℕ → ℤ) → over_columns c g 0 (columns_of s) ≡ sum_placed (λ i _. c (results.column_of i 0 (columns_of s)) *ℤ g i) s.steps
  columns_total g = columns_carry c g 0 (columns_of s) (once s each) ∙ sum_flat s each (λ i. c (results.column_of i 0 (columns_of s)) *ℤ g i)

  right_is : start.shape.right ≡ length (columns_of s) + count_slacks (lines_of s) + length of.hs
  right_is = of.is.right ∙ ap (λ n. n + length of.hs) of.real

  all_lines : AllByRecursion (LineHolds s (columns_of s) (count_slacks (lines_of s)) (length of.hs) c den
      (λ k within. ap (λ n. c (n + k)) (sym of.real) ∙ is.arts k (omega (arith, within, of.is.right))) (ap c (sym right_is) ∙ is.side) (λ j within. is.some j (omega (arith, within, of.real)))) (lines_of s)
  all_lines =
      lines_hold s (columns_of s) (count_slacks (lines_of s)) (length of.hs) c den
      (λ k within. ap (λ n. c (n + k)) (sym of.real) ∙ is.arts k (omega (arith, within, of.is.right))) (ap c (sym right_is) ∙ is.side) (λ j within. is.some j (omega (arith, within, of.real)))
      0 0 (lines_of s) of.hs (omega arith) (omega arith) of.halves_is (subst (λ (rows : List (List ℤ)). AllZero (weighs c 0) rows) of.rows is.solves)

  -- what the lines say, over the steps
  abbrev Holds : Line → Type 0
  Holds l = (l.slack ≡ false → total s (λ i. c (results.column_of i 0 (columns_of s))) l ≡ den *ℤ l.side) × (l.slack ≡ true → total s (λ i. c (results.column_of i 0 (columns_of s))) l ≤ℤ (den *ℤ l.side))

  lines_say : (ls : List Line) → AllByRecursion (LineHolds s (columns_of s) (count_slacks (lines_of s)) (length of.hs) c den
      (λ k within. ap (λ n. c (n + k)) (sym of.real) ∙ is.arts k (omega (arith, within, of.is.right))) (ap c (sym right_is) ∙ is.side) (λ j within. is.some j (omega (arith, within, of.real)))) ls
      → AllByRecursion Holds ls
  lines_say [] all = tt
  lines_say (l ∷ ls) all =
      let same = columns_total (step_entry s l) in
      ((λ flat_is. sym same ∙ all.0.0 flat_is, λ slack. subst (λ z. z ≤ℤ (den *ℤ l.side)) same (all.0.1 slack)), lines_say ls all.1)

  said : AllByRecursion Holds (lines_of s)
  said = lines_say (lines_of s) all_lines

  parts : AllByRecursion Holds (map (node_line s) (row_nodes s) ++ map (loop_line s) s.loops) × AllByRecursion Holds (map limit_line s.limits)
  parts = each_parts Holds (map (node_line s) (row_nodes s) ++ map (loop_line s) s.loops) (map limit_line s.limits) said

  front : AllByRecursion Holds (map (node_line s) (row_nodes s)) × AllByRecursion Holds (map (loop_line s) s.loops)
  front = each_parts Holds (map (node_line s) (row_nodes s)) (map (loop_line s) s.loops) parts.0

  start_times : (p : ℕ) → den *ℤ one_if (p == s.start) ≡ chosen (s.start == p) den
  start_times p = by (p == s.start) ∙ ap (λ b. chosen b den) (turned s.start p)
    where
      by : (b : Bool) → den *ℤ one_if b ≡ chosen b den
      by true = times_one den
      by false = *ℤ-zero den

  balance : (p : ℕ) → p < s.nodes → out_of s.steps x p -ℤ into s.steps x p ≡ chosen (s.start == p) den
  balance p within = by (is_passed s p) refl
    where
      by : (b : Bool) → is_passed s p ≡ b → out_of s.steps x p -ℤ into s.steps x p ≡ chosen (s.start == p) den
      by false fails =
          let there = range_kept p 0 s.nodes (λ q. not (is_passed s q)) (omega arith) (omega (arith, within)) (ap not fails) in
          sym (node_total s x p) ∙ (node_among Holds s (row_nodes s) p front.0 there).0 refl ∙ start_times p
      by true passes =
          let q = passed_is s p passes in
          let leads = entry_leads s p q in
          passed_balance s x p q (ap c (same_column s q.entry q.exit (next_there s q.entry p q leads.0 passes leads.1) 0 (columns_of s) (runs_each s))) leads.0 leads.1
          ∙ sym (ap (λ b. chosen b den) (sym (turned s.start p) ∙ q.other))

  bound_is : (l : SystemLoop) → All (λ i. i < length s.steps) l.back × IsOnce l.back → All (λ i. i < length s.steps) l.entry × IsOnce l.entry → Holds (loop_line s l) → IsBounded s.start den x l
  bound_is l back entry holds =
      let value = loop_total s x l back.0 back.1 entry.0 entry.1 in
      let most = holds.1 refl in
      omega (
        arith,
        ints,
        value,
        most,
        spread_left (pos l.bound) (sum_in x l.entry) (chosen (l.head == s.start) den),
        by (l.head == s.start),
      )
    where
      by : (b : Bool) → den *ℤ (if b then pos l.bound else pos 0) ≡ pos l.bound *ℤ chosen b den
      by true = *ℤ_comm den (pos l.bound)
      by false = *ℤ-zero den ∙ sym (*ℤ-zero (pos l.bound))

  pub counts_feasible : pos 0 <ℤ den → IsFeasible s den (λ i. c (results.column_of i 0 (columns_of s)))
  counts_feasible whole =
      record {
        whole = whole;
        some = λ i within. is.some (results.column_of i 0 (columns_of s)) (omega (arith, column_within i 0 (columns_of s) (listed s each i within), of.real));
        balanced = balance;
        bounded = λ i d within.
            let l = sound.loops i d within in
            bound_is (get_or s.loops i d) l.back l.entry (each_mapped Holds (loop_line s) s.loops i d front.1 within);
        limited = λ i d within.
            let named = sound.limits i d within in
            let holds = each_mapped Holds limit_line s.limits i d parts.1 within in
            omega (arith, ints, limit_total s x (get_or s.limits i d) named.1, holds.1 refl, *ℤ_comm den (get_or s.limits i d).constant);
      }

  -- the second goal row
  pub counts_value : weighs c 0 start.first.z ≡ neg_ℤ (value_of cycles s.steps (λ i. c (results.column_of i 0 (columns_of s))))
  counts_value =
      ap (weighs c 0) of.z
      ∙ omega (
        arith,
        ints,
        weighs_append c 0 (of.costs ++ replicate (count_slacks (lines_of s) + length of.hs) (pos 0)) (pos 0 ∷ pos 1 ∷ []),
        weighs_append c 0 of.costs (replicate (count_slacks (lines_of s) + length of.hs) (pos 0)),
        weighs_zeros c (0 + length of.costs) (count_slacks (lines_of s) + length of.hs),
        weighs_each (λ column. option_and_then negate_exact (column_cost s column)) (λ i. neg_ℤ (pos (step_at s i).cost)) c 0 (columns_of s) of.costs (cost_value s) of.costs_are,
        columns_total (λ i. neg_ℤ (pos (step_at s i).cost)),
        negated_value s.steps 0 (λ i t at. step_is s x i t at),
        *ℤ-zero (c (0 + length (of.costs ++ replicate (count_slacks (lines_of s) + length of.hs) (pos 0)))),
        ap (λ n. c (suc n) *ℤ pos 1) places,
        ap (λ z. z *ℤ pos 1) is.own,
      )
    where
      places : 0 + length (of.costs ++ replicate (count_slacks (lines_of s) + length of.hs) (pos 0)) ≡ start.shape.right
      places =
          omega (
            arith,
            length-append of.costs (replicate (count_slacks (lines_of s) + length of.hs) (pos 0)),
            length-replicate (count_slacks (lines_of s) + length of.hs) (pos 0),
            each_length (λ column. option_and_then negate_exact (column_cost s column)) (columns_of s) of.costs of.costs_are,
            right_is,
          )

      negated_value : (steps : List SystemStep) (k : ℕ) → ((i : ℕ) (t : SystemStep) → slice_get s.steps i ≡ Some t → step_at s i ≡ t)
          → sum_placed (λ i _. x i *ℤ neg_ℤ (pos (step_at s i).cost)) s.steps ≡ neg_ℤ (value_of cycles s.steps x)
      negated_value steps k step =
          sum_same (λ i _. x i *ℤ neg_ℤ (pos (step_at s i).cost)) (λ i t. neg_ℤ (pos t.cost *ℤ x i)) s.steps
          (λ i t at. ap (λ (u : SystemStep). x i *ℤ neg_ℤ (pos u.cost)) (step i t at) ∙ times_neg (x i) (pos t.cost) ∙ ap neg_ℤ (*ℤ_comm (x i) (pos t.cost)))
          ∙ sum_neg s.steps (λ i t. pos t.cost *ℤ x i)
        where
          sum_neg : (ts : List SystemStep) (f : ℕ → SystemStep → ℤ) → sum_placed (λ i t. neg_ℤ (f i t)) ts ≡ neg_ℤ (sum_placed f ts)
          sum_neg [] f = refl
          sum_neg (t ∷ ts) f = omega (arith, ints, sum_neg ts (λ i. f (suc i)))
