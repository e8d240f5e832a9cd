-- Prices that a goal row shows, with the potentials inside columns, are prices of the system.
use Rattle.std.proofs.Common.{◌≡◌, ℕ, zero, suc, ◌+◌, ◌-◌, ◌<◌, ◌≤◌, ◌==◌, ◌||◌, ◌&&◌, not, ℤ, pos, negsuc, ◌+ℤ◌, ◌-ℤ◌, ◌*ℤ◌, neg_ℤ, ◌≤ℤ◌, ◌<ℤ◌, Bool, true, false, if◌then◌else◌, List, [], ◌∷◌, ◌++◌, map, get_or, take, drop, length, inl, inr, ◌⊎◌, Option, None, Some, option_and_then, option_map, refl, sym, ap, ap₂, subst, ◌∙◌, arith}
use Rattle.std.specs.Prelude.{IfSome, slice_get}
use Rattle.std.specs.List.{All, AllByRecursion, filter, range_with_len}
use Rattle.std.proofs.Math.IntN.{*ℤ-zero, *ℤ_comm}
use Rattle.std.proofs.lemmas.Bool.{cases_eq, eq-eqb, ne_eqb, or_parts}
use Rattle.std.proofs.lemmas.Int.{ints}
use Rattle.std.proofs.lemmas.List.{get_or-map, length-map, map-append}
use Rattle.std.proofs.lemmas.List.Elements.{All-head, All-tail}
use Rattle.std.proofs.lemmas.List.FromFn.{get_or-range_with_len, length-range_with_len}
use Rattle.std.proofs.lemmas.Option.{get_or_from_slice_get, slice_get_within}
use Rattle.wc_base.specs.Sums.{chosen, sum_in, sum_placed}
use Rattle.wc_base.proofs.EachLemmas.{each_append, each_parts}
use Rattle.wc_model.specs.declared.flow_system.System.{System}
use Rattle.wc_model.specs.declared.flow_system.SystemStep.{SystemStep}
use Rattle.wc_model.specs.Flow.Cells.{columns_of, ins_of, is_passed, outs_of, row_nodes}
use Rattle.wc_model.specs.Flow.Certificates.{ArePrices, Prices, ahead_of, dual_value, scaled, step_price}
use Rattle.wc_model.specs.Flow.Counts.{cycles}
use Rattle.wc_model.specs.Flow.Places.{IsOnce, is_listed, number_at}
use Rattle.wc_model.specs.Flow.RowResults.{RowPrices, inner_potentials, potentials, price_of, split_prices}
use Rattle.wc_model.specs.Flow.Systems.{IsSystem}
use Rattle.wc_simplex.proofs.ChainLemmas.{IsFirst, IsOnFrom, count, exit_is, next_is, passed_is, step_at}
use Rattle.wc_simplex.proofs.CountingLemmas.{range_kept}
use Rattle.wc_simplex.proofs.InnerLemmas.{ChainHolds, ChainsHold, IsPaid, chain_keys, chains_hold, column_paid, keys, numbered_keys, once_found, row_price, u_of, whole}
use Rattle.wc_simplex.proofs.LineSums.{range_once}
use Rattle.wc_simplex.proofs.PartitionLemmas.{IsRun, RunsFrom, count_append, counted_once, few, flat, listed, runs_each}
use Rattle.wc_simplex.proofs.ShownLemmas.{AreShown, limits_counted, loops_counted, row_prices}

-- the steps of columns that aren't their first
abbrev pub later_steps : List (List ℕ) → List ℕ
later_steps [] = []
later_steps (column ∷ columns) = drop 1 column ++ later_steps columns

later_count : (k : ℕ) (columns : List (List ℕ)) → count k (later_steps columns) ≤ count k (flat columns)
later_count k [] = omega arith
later_count k (column ∷ columns) =
    omega (arith, count_append k (drop 1 column) (later_steps columns), count_append k column (flat columns), later_count k columns, by column)
  where
    by : (c : List ℕ) → count k (drop 1 c) ≤ count k c
    by [] = omega arith
    by (i ∷ is) = omega arith

-- sources of steps to which others lead are apart
source_listed : (s : System) (i : ℕ) (xs : List ℕ) → i < length s.steps → is_passed s (step_at s i).source ≡ true → AllByRecursion (λ k. (k < length s.steps)) xs
    → is_listed i xs ≡ false → is_listed (step_at s i).source (map (λ k. (step_at s k).source) xs) ≡ false
source_listed s i [] within passes inside none = refl
source_listed s i (k ∷ xs) within passes inside none =
    let parts : ((i == k) ≡ false) × (is_listed i xs ≡ false) = or_parts (i == k) (is_listed i xs) none in
    by (cases_eq (step_at s i).source (step_at s k).source) parts.0 (source_listed s i xs within passes inside.1 parts.1)
  where
    wrong : (b : Bool) → b ≡ true → b ≡ false → ⊥
    wrong true e f = cc
    wrong false e f = cc

    by : ((step_at s i).source ≡ (step_at s k).source) ⊎ ((step_at s i).source ≡ (step_at s k).source → ⊥) → (i == k) ≡ false
        → is_listed (step_at s i).source (map (λ m. (step_at s m).source) xs) ≡ false → is_listed (step_at s i).source (map (λ m. (step_at s m).source) (k ∷ xs)) ≡ false
    by (inl same) other later =
        let p = passed_is s (step_at s i).source passes in
        absurd (wrong (i == k) (eq-eqb i k (exit_is s (step_at s i).source i p within refl ∙ sym (exit_is s (step_at s i).source k p inside.0 (sym same)))) other)
    by (inr apart) other later =
        ap (λ b. b || is_listed (step_at s i).source (map (λ m. (step_at s m).source) xs)) (ne_eqb (step_at s i).source (step_at s k).source apart) ∙ later

sources_once : (s : System) (xs : List ℕ) → IsOnce xs → AllByRecursion (λ k. (k < length s.steps)) xs → AllByRecursion (λ k. is_passed s (step_at s k).source ≡ true) xs → IsOnce (map (λ k. (step_at s k).source) xs)
sources_once s [] once_is inside passes = tt
sources_once s (i ∷ xs) once_is inside passes =
    (source_listed s i xs inside.0 passes.0 inside.1 once_is.0, sources_once s xs once_is.1 inside.1 passes.1)

recursive : (P : ℕ → Type 0) (xs : List ℕ) → All P xs → AllByRecursion P xs
recursive P [] all = tt
recursive P (x ∷ xs) all = (All-head P x xs all, recursive P xs (All-tail P x xs all))

module _ (s : System) where
  run_later : (m : ℕ) (later : List ℕ) → RunsFrom s m later → AllByRecursion (λ k. (k < length s.steps)) later × AllByRecursion (λ k. is_passed s (step_at s k).source ≡ true) later
  run_later m [] runs = (tt, tt)
  run_later m (i ∷ later) runs =
      let is_next = next_is s m i runs.0 in
      let rest = run_later i later runs.1 in
      ((is_next.inside, rest.0), (is_next.passes, rest.1))

  later_are : (columns : List (List ℕ)) → AllByRecursion (IsRun s) columns
      → AllByRecursion (λ k. (k < length s.steps)) (later_steps columns) × AllByRecursion (λ k. is_passed s (step_at s k).source ≡ true) (later_steps columns)
  later_are [] runs = (tt, tt)
  later_are (column ∷ columns) runs =
      let run = runs.0 in
      let own = run_later run.first run.later run.runs in
      let rest = later_are columns runs.1 in
      let at : run.later ≡ drop 1 column = sym (ap (drop 1) run.is) in (
        each_append (λ k. k < length s.steps) (drop 1 column) (later_steps columns) (subst (λ (l : List ℕ). AllByRecursion (λ k. (k < length s.steps)) l) at own.0) rest.0,
        each_append (λ k. is_passed s (step_at s k).source ≡ true) (drop 1 column) (later_steps columns)
            (subst (λ (l : List ℕ). AllByRecursion (λ k. is_passed s (step_at s k).source ≡ true) l) at own.1) rest.1,
      )

  module _ (each : (k : ℕ) → k < length s.steps → IsOnFrom s k) where
    later_once : IsOnce (later_steps (columns_of s))
    later_once = counted_once (later_steps (columns_of s)) (λ k. less k)
      where
        less : (k : ℕ) → count k (later_steps (columns_of s)) ≤ 1
        less k = omega (arith, later_count k (columns_of s), few s each k)

    pub later_sources : IsOnce (map (λ k. (step_at s k).source) (later_steps (columns_of s)))
    later_sources = let are = later_are (columns_of s) (runs_each s) in sources_once s (later_steps (columns_of s)) later_once are.0 are.1

-- a filter leaves out what it doesn't keep
pub filter_left : (q : ℕ) (keep : ℕ → Bool) (xs : List ℕ) → keep q ≡ false → is_listed q (filter keep xs) ≡ false
filter_left q keep [] out = refl
filter_left q keep (x ∷ xs) out = by (keep x) refl (filter_left q keep xs out)
  where
    apart : keep x ≡ true → q ≡ x → ⊥
    apart kept same = wrong (keep q) out (ap keep same ∙ kept)
      where
        wrong : (b : Bool) → b ≡ false → b ≡ true → ⊥
        wrong true e f = cc
        wrong false e f = cc

    by : (b : Bool) → keep x ≡ b → is_listed q (filter keep xs) ≡ false → is_listed q (if b then x ∷ filter keep xs else filter keep xs) ≡ false
    by true kept rest = ap (λ b. b || is_listed q (filter keep xs)) (ne_eqb q x (apart kept)) ∙ rest
    by false kept rest = rest

module _ (s : System) (sound : IsSystem s) (each : (k : ℕ) → k < length s.steps → IsOnFrom s k) (scale value : ℤ) (all : List ℤ) (shown : AreShown s (columns_of s) scale value all)
    (inner : List (ℕ × ℤ)) (found : inner_potentials s scale (split_prices s all) (columns_of s) ≡ Some inner) where
  abbrev known : RowPrices
  known = split_prices s all

  a : length (split_prices s all).loops ≡ length s.loops
  a = loops_counted s all shown.counted

  b : length (split_prices s all).limits ≡ length s.limits
  b = limits_counted s all shown.counted

  nodes_are : keys (split_prices s all).nodes ≡ row_nodes s
  nodes_are = numbered_keys (row_nodes s) all (omega (arith, shown.counted))

  rows_apart : (q : ℕ) → is_passed s q ≡ true → is_listed q (row_nodes s) ≡ false
  rows_apart q passes = filter_left q (λ p. not (is_passed s p)) (range_with_len 0 s.nodes) (ap not passes)

  rows_there : (q : ℕ) → q < s.nodes → is_passed s q ≡ false → is_listed q (row_nodes s) ≡ true
  rows_there q within fails = range_kept q 0 s.nodes (λ p. not (is_passed s p)) (omega arith) (omega (arith, within)) (ap not fails)

  holds : ChainsHold s scale (split_prices s all) a b (columns_of s) inner
  holds = chains_hold s scale (split_prices s all) a b (columns_of s) inner found

  inner_keys : (columns : List (List ℕ)) (list : List (ℕ × ℤ)) → ChainsHold s scale (split_prices s all) a b columns list → keys list ≡ map (λ k. (step_at s k).source) (later_steps columns)
  inner_keys [] list is = ap keys is
  inner_keys (column ∷ columns) list is =
      ap keys is.2 ∙ map-append (λ p. p.0) is.0 is.1
      ∙ ap₂ (λ x y. x ++ y) (chain_keys s scale (split_prices s all) a b (drop 1 column) is.0 is.3) (inner_keys columns is.1 is.4)
      ∙ sym (map-append (λ k. (step_at s k).source) (drop 1 column) (later_steps columns))

  all_found : AllByRecursion (λ p. price_of inner p.0 ≡ p.1) inner
  all_found = once_found inner (subst (λ (l : List ℕ). IsOnce l) (sym (inner_keys (columns_of s) inner holds)) (later_sources s each))

  abbrev Paid : ℕ → Type 0
  Paid i = (pos (step_at s i).cost *ℤ scale) ≤ℤ step_price s (record { u = λ q. price_of ((split_prices s all).nodes ++ inner) q; v = number_at (split_prices s all).loops; w = number_at (split_prices s all).limits }) i (step_at s i)

  columns_paid : (columns : List (List ℕ)) (list : List (ℕ × ℤ)) → AllByRecursion (IsRun s) columns → ChainsHold s scale (split_prices s all) a b columns list → AllByRecursion (λ p. price_of inner p.0 ≡ p.1) list
      → ((j : ℕ) → j < length columns
      → (scale *ℤ sum_in (λ i. pos (step_at s i).cost) (get_or columns j [])) ≤ℤ sum_in (λ i. step_price s (row_prices (split_prices s all)) i (step_at s i)) (get_or columns j []))
      → AllByRecursion Paid (flat columns)
  columns_paid [] list runs is found_all paid = tt
  columns_paid (column ∷ columns) list runs is found_all paid =
      let run = runs.0 in
      let parts = each_parts (λ (p : ℕ × ℤ). price_of inner p.0 ≡ p.1) is.0 is.1 (subst (λ (l : List (ℕ × ℤ)). AllByRecursion (λ p. price_of inner p.0 ≡ p.1) l) is.2 found_all) in
      let own : AllByRecursion Paid (run.first ∷ run.later) =
      column_paid s scale (split_prices s all) a b inner nodes_are rows_apart rows_there sound.targets sound.sources run.first run.later is.0 run.is_first run.runs
      (subst (λ (l : List ℕ). ChainHolds s scale (split_prices s all) a b l is.0) (ap (drop 1) run.is) is.3) parts.0
      (subst (λ (l : List ℕ). (scale *ℤ sum_in (λ i. pos (step_at s i).cost) l) ≤ℤ sum_in (λ i. step_price s (row_prices (split_prices s all)) i (step_at s i)) l) run.is (paid 0 (omega arith))) in
      each_append Paid column (flat columns) (subst (λ (l : List ℕ). AllByRecursion Paid l) (sym run.is) own)
      (columns_paid columns is.1 runs.1 is.4 parts.1 (λ j within. paid (suc j) (omega (arith, within))))

  paid_listed : (xs : List ℕ) (i : ℕ) → AllByRecursion Paid xs → is_listed i xs ≡ true → Paid i
  paid_listed [] i paid among = absurd (cc)
  paid_listed (x ∷ xs) i paid among = by (cases_eq i x) (λ e. paid_listed xs i paid.1 e)
    where
      by : (i ≡ x) ⊎ (i ≡ x → ⊥) → (is_listed i xs ≡ true → Paid i) → Paid i
      by (inl same) go = subst Paid (sym same) paid.0
      by (inr apart) go = go (ap (λ c. c || is_listed i xs) (sym (ne_eqb i x apart)) ∙ among)

  each_paid : (i : ℕ) → i < length s.steps → Paid i
  each_paid i within = paid_listed (flat (columns_of s)) i (columns_paid (columns_of s) inner (runs_each s) holds all_found shown.columns_paid) (listed s each i within)

  -- as lists
  listed_u : (q : ℕ) → q < s.nodes → number_at (potentials s (split_prices s all) inner) q ≡ price_of ((split_prices s all).nodes ++ inner) q
  listed_u q within =
      let none : 0 + q ≡ q = omega arith in
      get_or-map (price_of ((split_prices s all).nodes ++ inner)) (range_with_len 0 s.nodes) q 0 (pos 0) (omega (arith, within, length-range_with_len 0 s.nodes))
      ∙ ap (price_of ((split_prices s all).nodes ++ inner)) (get_or-range_with_len 0 s.nodes q 0 within ∙ none)

  abbrev pub shown_prices : Prices
  shown_prices = record { u = number_at (potentials s (split_prices s all) inner); v = number_at (split_prices s all).loops; w = number_at (split_prices s all).limits }

  listed_ahead : (o : Option ℕ) → IfSome o (λ q. q < s.nodes) → ahead_of (number_at (potentials s (split_prices s all) inner)) o ≡ ahead_of (λ q. price_of ((split_prices s all).nodes ++ inner) q) o
  listed_ahead None inside = refl
  listed_ahead (Some q) inside = listed_u q inside

  pub are_prices : ArePrices s (scaled scale) shown_prices
  are_prices =
      record {
        loops_some = shown.loops_some;
        limits_some = shown.limits_some;
        steps = λ i t at.
            let within = slice_get_within s.steps i t at in
            let step : step_at s i ≡ t = get_or_from_slice_get s.steps i t no_step_here at in
            let source : t.source < s.nodes = subst (λ (x : SystemStep). x.source < s.nodes) step (sound.sources i no_step_here within) in
            let target : IfSome t.target (λ q. q < s.nodes) = subst (λ (x : SystemStep). IfSome x.target (λ q. q < s.nodes)) step (sound.targets i no_step_here within) in
            let paid : (pos t.cost *ℤ scale) ≤ℤ step_price s (record { u = λ q. price_of ((split_prices s all).nodes ++ inner) q; v = number_at (split_prices s all).loops; w = number_at (split_prices s all).limits }) i t =
            subst (λ (x : SystemStep). (pos x.cost *ℤ scale) ≤ℤ step_price s (record { u = λ q. price_of ((split_prices s all).nodes ++ inner) q; v = number_at (split_prices s all).loops; w = number_at (split_prices s all).limits }) i x)
            step (each_paid i within) in
            omega (arith, ints, paid, listed_u t.source source, listed_ahead t.target target);
      }
    where
      no_step_here : SystemStep
      no_step_here = record { source = 0; target = None; cost = 0 }

  start_row : is_passed s s.start ≡ false
  start_row = ap (λ c. not c && length (ins_of s.steps s.start) == 1 && length (outs_of s.steps s.start) == 1) (eq-eqb s.start s.start refl)

  pub dual_is : dual_value s shown_prices ≡ value
  dual_is =
      omega (
        arith,
        ints,
        shown.sides,
        listed_u s.start sound.start,
        row_price s scale (split_prices s all) a b inner nodes_are rows_apart rows_there s.start sound.start start_row,
      )

  pub u_counted : length (potentials s (split_prices s all) inner) ≡ s.nodes
  u_counted = length-map (range_with_len 0 s.nodes) (price_of ((split_prices s all).nodes ++ inner)) ∙ length-range_with_len 0 s.nodes

  pub v_counted : length (split_prices s all).loops ≡ length s.loops
  v_counted = a

  pub w_counted : length (split_prices s all).limits ≡ length s.limits
  w_counted = b
