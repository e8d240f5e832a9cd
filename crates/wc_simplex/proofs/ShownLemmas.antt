-- The prices that a goal row shows: none of a loop or a limit is below 0, and each column is worth its cost.
use Rattle.std.proofs.Common.{◌≡◌, ℕ, zero, suc, ◌+◌, ◌-◌, ◌<◌, ◌≤◌, ◌==◌, not, ℤ, pos, negsuc, ◌+ℤ◌, ◌-ℤ◌, ◌*ℤ◌, neg_ℤ, ◌≤ℤ◌, ◌<ℤ◌, Bool, true, false, if◌then◌else◌, List, [], ◌∷◌, ◌++◌, map, get_or, take, drop, length, inl, inr, ◌⊎◌, Option, None, Some, option_and_then, option_map, refl, sym, ap, ap₂, subst, ◌∙◌, arith}
use Rattle.std.specs.List.{range_with_len}
use Rattle.std.proofs.lemmas.Int.{ints}
use Rattle.std.proofs.lemmas.List.{get_or-drop, get_or-map, get_or-take, length-append, length-drop, length-map, length-take}
use Rattle.std.proofs.lemmas.Option.{same_Some}
use Rattle.wc_base.specs.Sums.{chosen, sum_in, sum_placed}
use Rattle.wc_model.specs.declared.flow_system.System.{System}
use Rattle.wc_model.specs.declared.flow_system.SystemStep.{SystemStep}
use Rattle.wc_model.specs.Flow.Cells.{is_passed, row_nodes}
use Rattle.wc_model.specs.Flow.Certificates.{Prices, ahead_of, back_price, entry_price, limit_price, step_price}
use Rattle.wc_model.specs.Flow.Exact.{exact, negate_exact}
use Rattle.wc_model.specs.Flow.Places.{number_at}
use Rattle.wc_model.specs.Flow.RowMachine.{entry}
use Rattle.wc_model.specs.Flow.RowResults.{RowPrices, numbered, price_ahead, price_of, prices_from, signed, split_prices}
use Rattle.wc_model.specs.Flow.Tableaus.{Half, Line, Start, count_slacks, limit_line, lines_of, loop_line, node_line, step_entry}
use Rattle.wc_simplex.proofs.CellLemmas.{lines_count}
use Rattle.wc_simplex.proofs.BeginLemmas.{IsStartOf, no_half}
use Rattle.wc_simplex.proofs.ChainLemmas.{step_at}
use Rattle.wc_simplex.proofs.ExactLemmas.{kept_is}
use Rattle.wc_simplex.proofs.GoalLemmas.{priced_sum}
use Rattle.wc_simplex.proofs.LineSums.{at_column, at_side, at_slack, halves_priced, limit_sides, limit_sums, line_append, line_sum, line_swap, line_value, loop_sides, loop_sums, node_sides, node_sums, own_line, own_sum, slacks_priced_append, slacks_priced_at, range_once, slack_at, slack_prices, AreTurned, SlacksPriced}
use Rattle.wc_simplex.proofs.StartLemmas.{halves_count, turn}

-- prices as they are read
signed_is : (b : Bool) (x y : ℤ) → signed b x ≡ Some y → y ≡ turn b x
signed_is true x y is = let same = (kept_is (pos 0 -ℤ x) y is).0 in omega (arith, ints, same)
signed_is false x y is = sym (same_Some x y is)

pub prices_are : (goal : List ℤ) (place : ℕ) (base : ℤ) (ns : List Bool) (all : List ℤ) → prices_from goal place base ns ≡ Some all
    → (length all ≡ length ns) × ((i : ℕ) → i < length ns → get_or all i (pos 0) ≡ turn (get_or ns i false) (entry goal (place + i) -ℤ base))
prices_are goal place base [] all is = (ap length (sym (same_Some [] all is)), λ i within. absurd (omega (arith, within)))
prices_are goal place base (n ∷ ns) all is =
    by (exact (entry goal place -ℤ base)) refl (prices_from goal (suc place) base ns) refl is (λ rest e. prices_are goal (suc place) base ns rest e)
  where
    here : place ≡ place + 0
    here = omega arith

    at : (v price : ℤ) (rest : List ℤ) → exact (entry goal place -ℤ base) ≡ Some v → signed n v ≡ Some price → price ∷ rest ≡ all
        → (length rest ≡ length ns) × ((i : ℕ) → i < length ns → get_or rest i (pos 0) ≡ turn (get_or ns i false) (entry goal (suc place + i) -ℤ base))
        → (length all ≡ suc (length ns)) × ((i : ℕ) → i < suc (length ns) → get_or all i (pos 0) ≡ turn (get_or (n ∷ ns) i false) (entry goal (place + i) -ℤ base))
    at v price rest p q same later = (ap length (sym same) ∙ ap suc later.0, λ i within. each i within)
      where
        each : (i : ℕ) → i < suc (length ns) → get_or all i (pos 0) ≡ turn (get_or (n ∷ ns) i false) (entry goal (place + i) -ℤ base)
        each zero within =
            ap (λ l. get_or l 0 (pos 0)) (sym same) ∙ signed_is n v price q ∙ ap (turn n) (sym (kept_is (entry goal place -ℤ base) v p).0) ∙ ap (λ m. turn n (entry goal m -ℤ base)) here
        each (suc i) within =
            let more : suc place + i ≡ place + suc i = omega arith in
            ap (λ l. get_or l (suc i) (pos 0)) (sym same) ∙ later.1 i (omega (arith, within)) ∙ ap (λ m. turn (get_or ns i false) (entry goal m -ℤ base)) more

    by : (o : Option ℤ) → exact (entry goal place -ℤ base) ≡ o → (l : Option (List ℤ)) → prices_from goal (suc place) base ns ≡ l
        → option_and_then (λ price. option_map (λ ps. price ∷ ps) l) (option_and_then (signed n) o) ≡ Some all
        → ((rest : List ℤ) → prices_from goal (suc place) base ns ≡ Some rest → (length rest ≡ length ns) × ((i : ℕ) → i < length ns → get_or rest i (pos 0) ≡ turn (get_or ns i false) (entry goal (suc place + i) -ℤ base)))
        → (length all ≡ suc (length ns)) × ((i : ℕ) → i < suc (length ns) → get_or all i (pos 0) ≡ turn (get_or (n ∷ ns) i false) (entry goal (place + i) -ℤ base))
    by None p l q e go = absurd (cc)
    by (Some v) p l q e go = last (signed n v) refl l q e
      where
        last : (o : Option ℤ) → signed n v ≡ o → (l : Option (List ℤ)) → prices_from goal (suc place) base ns ≡ l → option_and_then (λ price. option_map (λ ps. price ∷ ps) l) o ≡ Some all
            → (length all ≡ suc (length ns)) × ((i : ℕ) → i < suc (length ns) → get_or all i (pos 0) ≡ turn (get_or (n ∷ ns) i false) (entry goal (place + i) -ℤ base))
        last None r l q e = absurd (cc)
        last (Some price) r None q e = absurd (cc)
        last (Some price) r (Some rest) q e = at v price rest p r (same_Some (price ∷ rest) all e) (go rest q)

-- by nodes, loops and limits, with no potentials inside columns yet
abbrev pub row_prices : RowPrices → Prices
row_prices known = record { u = price_of known.nodes; v = number_at known.loops; w = number_at known.limits }

ahead_is : (known : List (ℕ × ℤ)) (o : Option ℕ) → price_ahead known o ≡ ahead_of (price_of known) o
ahead_is known None = refl
ahead_is known (Some q) = refl

module _ (s : System) (all : List ℤ) (counted : length all ≡ length (row_nodes s) + length s.loops + length s.limits) where
  abbrev q : ℕ → ℤ
  q k = get_or all k (pos 0)

  pub loops_counted : length (split_prices s all).loops ≡ length s.loops
  loops_counted = omega (arith, length-take (length s.loops) (drop (length (row_nodes s)) all), length-drop (length (row_nodes s)) all, counted)

  pub limits_counted : length (split_prices s all).limits ≡ length s.limits
  limits_counted = omega (arith, length-drop (length (row_nodes s) + length s.loops) all, counted)

  loops_at : (i : ℕ) → i < length s.loops → get_or all (length (row_nodes s) + i) (pos 0) ≡ number_at (split_prices s all).loops i
  loops_at i within = sym (get_or-take (length s.loops) (drop (length (row_nodes s)) all) i (pos 0) within ∙ get_or-drop (length (row_nodes s)) all i (pos 0))

  limits_at : (i : ℕ) → i < length s.limits → get_or all (length (row_nodes s) + length s.loops + i) (pos 0) ≡ number_at (split_prices s all).limits i
  limits_at i within = sym (get_or-drop (length (row_nodes s) + length s.loops) all i (pos 0))

  nodes_at : (i : ℕ) → i < length (row_nodes s) → get_or all (0 + i) (pos 0) ≡ get_or all i (pos 0)
  nodes_at i within = let none : 0 + i ≡ i = omega arith in ap (λ n. get_or all n (pos 0)) none

  loops_place : 0 + length (map (node_line s) (row_nodes s)) ≡ length (row_nodes s)
  loops_place = omega (arith, length-map (row_nodes s) (node_line s))

  limits_place : 0 + length (map (node_line s) (row_nodes s) ++ map (loop_line s) s.loops) ≡ length (row_nodes s) + length s.loops
  limits_place = omega (arith, length-append (map (node_line s) (row_nodes s)) (map (loop_line s) s.loops), length-map (row_nodes s) (node_line s), length-map s.loops (loop_line s))

  all_sum : (f : Line → ℤ) → line_sum (λ k. get_or all k (pos 0)) 0 (lines_of s) f
      ≡ line_sum (λ k. get_or all k (pos 0)) 0 (map (node_line s) (row_nodes s)) f +ℤ line_sum (λ k. get_or all k (pos 0)) (length (row_nodes s)) (map (loop_line s) s.loops) f
      +ℤ line_sum (λ k. get_or all k (pos 0)) (length (row_nodes s) + length s.loops) (map limit_line s.limits) f
  all_sum f =
      omega (
        arith,
        ints,
        line_append (λ k. get_or all k (pos 0)) 0 (map (node_line s) (row_nodes s) ++ map (loop_line s) s.loops) (map limit_line s.limits) f,
        line_append (λ k. get_or all k (pos 0)) 0 (map (node_line s) (row_nodes s)) (map (loop_line s) s.loops) f,
        ap (λ n. line_sum (λ k. get_or all k (pos 0)) n (map (loop_line s) s.loops) f) loops_place,
        ap (λ n. line_sum (λ k. get_or all k (pos 0)) n (map limit_line s.limits) f) limits_place,
      )

  nodes_few : length (row_nodes s) ≤ length all
  nodes_few = omega (arith, counted)

  -- what all lines say of a step
  pub step_total : (i : ℕ) → line_sum (λ k. get_or all k (pos 0)) 0 (lines_of s) (λ l. step_entry s l i) ≡ step_price s (row_prices (split_prices s all)) i (step_at s i)
  step_total i =
      omega (
        arith,
        ints,
        all_sum (λ l. step_entry s l i),
        node_sums s i (step_at s i) (λ k. get_or all k (pos 0)) 0 (row_nodes s) all (range_once 0 s.nodes (λ p. not (is_passed s p))) nodes_few nodes_at,
        ahead_is (split_prices s all).nodes (step_at s i).target,
        loop_sums s i (step_at s i) (λ k. get_or all k (pos 0)) (length (row_nodes s)) s.loops (number_at (split_prices s all).loops) loops_at,
        limit_sums i (step_at s i) (λ k. get_or all k (pos 0)) (length (row_nodes s) + length s.loops) s.limits (number_at (split_prices s all).limits) limits_at,
      )

  -- and of the right sides
  pub side_total : line_sum (λ k. get_or all k (pos 0)) 0 (lines_of s) (λ l. l.side)
      ≡ price_of (split_prices s all).nodes s.start +ℤ sum_placed (λ k l. chosen (l.head == s.start) (pos l.bound *ℤ number_at (split_prices s all).loops k)) s.loops
      +ℤ sum_placed (λ k l. l.constant *ℤ number_at (split_prices s all).limits k) s.limits
  side_total =
      omega (
        arith,
        ints,
        all_sum (λ l. l.side),
        node_sides s (λ k. get_or all k (pos 0)) 0 (row_nodes s) all (range_once 0 s.nodes (λ p. not (is_passed s p))) nodes_few nodes_at,
        loop_sides s (λ k. get_or all k (pos 0)) (length (row_nodes s)) s.loops (number_at (split_prices s all).loops) loops_at,
        limit_sides (λ k. get_or all k (pos 0)) (length (row_nodes s) + length s.loops) s.limits (number_at (split_prices s all).limits) limits_at,
      )

-- What the prices of the rows hold.
pub record AreShown (s : System) (columns : List (List ℕ)) (scale value : ℤ) (all : List ℤ) : Type 0 where
  pub counted : length all ≡ length (row_nodes s) + length s.loops + length s.limits
  pub loops_some : (k : ℕ) → k < length s.loops → pos 0 ≤ℤ number_at (split_prices s all).loops k
  pub limits_some : (k : ℕ) → k < length s.limits → pos 0 ≤ℤ number_at (split_prices s all).limits k
  pub columns_paid : (j : ℕ) → j < length columns
      → (scale *ℤ sum_in (λ i. pos (step_at s i).cost) (get_or columns j [])) ≤ℤ sum_in (λ i. step_price s (row_prices (split_prices s all)) i (step_at s i)) (get_or columns j [])
  pub sides : price_of (split_prices s all).nodes s.start +ℤ sum_placed (λ k l. chosen (l.head == s.start) (pos l.bound *ℤ number_at (split_prices s all).loops k)) s.loops
      +ℤ sum_placed (λ k l. l.constant *ℤ number_at (split_prices s all).limits k) s.limits ≡ value

module _ (s : System) (columns : List (List ℕ)) (start : Start) (of : IsStartOf s columns start) (goal : List ℤ) (base scale value : ℤ) (all : List ℤ)
    (is : prices_from goal start.shape.real base start.negated ≡ Some all)
    (structural : (j : ℕ) → j < length columns
    → (scale *ℤ sum_in (λ i. pos (step_at s i).cost) (get_or columns j [])) ≤ℤ priced_sum (λ k. entry goal (start.shape.real + k) -ℤ base) 0 start.first.rows j)
    (slack : (m : ℕ) → m < count_slacks (lines_of s) → pos 0 ≤ℤ priced_sum (λ k. entry goal (start.shape.real + k) -ℤ base) 0 start.first.rows (length columns + m))
    (side : priced_sum (λ k. entry goal (start.shape.real + k) -ℤ base) 0 start.first.rows start.shape.right ≡ value) where
  abbrev p : ℕ → ℤ
  p k = entry goal (start.shape.real + k) -ℤ base

  are : (length all ≡ length start.negated) × ((i : ℕ) → i < length start.negated → get_or all i (pos 0) ≡ turn (get_or start.negated i false) (entry goal (start.shape.real + i) -ℤ base))
  are = prices_are goal start.shape.real base start.negated all is

  negated_count : length start.negated ≡ length of.hs
  negated_count = ap length of.negated ∙ length-map of.hs (λ h. h.negated)

  all_count : length all ≡ length (row_nodes s) + length s.loops + length s.limits
  all_count = are.0 ∙ negated_count ∙ halves_count s columns (count_slacks (lines_of s)) 0 (lines_of s) of.hs of.halves_is ∙ lines_count s

  turned : AreTurned (λ k. entry goal (start.shape.real + k) -ℤ base) (λ k. get_or all k (pos 0)) 0 of.hs
  turned i within =
      let none : 0 + i ≡ i = omega arith in
      let few : i < length start.negated = omega (arith, within, negated_count) in
      subst (λ (n : ℕ). get_or all n (pos 0) ≡ turn (get_or of.hs i no_half).negated (entry goal (start.shape.real + n) -ℤ base)) (sym none)
      (are.1 i few ∙ ap (λ b. turn b (entry goal (start.shape.real + i) -ℤ base)) (ap (λ l. get_or l i false) of.negated ∙ get_or-map (λ h. h.negated) of.hs i no_half false within))

  column_total : (j : ℕ) → j < length columns
      → priced_sum (λ k. entry goal (start.shape.real + k) -ℤ base) 0 start.first.rows j ≡ sum_in (λ i. step_price s (row_prices (split_prices s all)) i (step_at s i)) (get_or columns j [])
  column_total j within =
      ap (λ rows. priced_sum (λ k. entry goal (start.shape.real + k) -ℤ base) 0 rows j) of.rows
      ∙ halves_priced s columns (count_slacks (lines_of s)) (length of.hs) j (λ own l. line_value s l (get_or columns j [])) (λ k. entry goal (start.shape.real + k) -ℤ base) (λ k. get_or all k (pos 0))
      (λ own place l h half. at_column s columns (count_slacks (lines_of s)) (length of.hs) own place l h half j within) 0 0 0 (lines_of s) of.hs of.halves_is turned
      ∙ own_line (λ k. get_or all k (pos 0)) 0 0 (lines_of s) (λ l. line_value s l (get_or columns j []))
      ∙ line_swap s (λ k. get_or all k (pos 0)) 0 (lines_of s) (get_or columns j [])
      ∙ same_in (get_or columns j [])
    where
      same_in : (xs : List ℕ) → sum_in (λ i. line_sum (λ k. get_or all k (pos 0)) 0 (lines_of s) (λ l. step_entry s l i)) xs ≡ sum_in (λ i. step_price s (row_prices (split_prices s all)) i (step_at s i)) xs
      same_in [] = refl
      same_in (x ∷ xs) = ap₂ (λ a b. a +ℤ b) (step_total s all all_count x) (same_in xs)

  slack_total : (m : ℕ) → m < count_slacks (lines_of s) → pos 0 ≤ℤ own_sum (λ k. get_or all k (pos 0)) 0 0 (lines_of s) (slack_at m)
  slack_total m within =
      subst (λ (z : ℤ). pos 0 ≤ℤ z)
      (ap (λ rows. priced_sum (λ k. entry goal (start.shape.real + k) -ℤ base) 0 rows (length columns + m)) of.rows
      ∙ halves_priced s columns (count_slacks (lines_of s)) (length of.hs) (length columns + m) (slack_at m) (λ k. entry goal (start.shape.real + k) -ℤ base) (λ k. get_or all k (pos 0))
      (λ own place l h half. at_slack s columns (count_slacks (lines_of s)) (length of.hs) own place l h half m within) 0 0 0 (lines_of s) of.hs of.halves_is turned)
      (slack m within)

  right_is : start.shape.right ≡ length columns + count_slacks (lines_of s) + length of.hs
  right_is = of.is.right ∙ ap (λ n. n + length of.hs) of.real

  sides_total : line_sum (λ k. get_or all k (pos 0)) 0 (lines_of s) (λ l. l.side) ≡ value
  sides_total =
      sym
      (ap₂ (λ rows j. priced_sum (λ k. entry goal (start.shape.real + k) -ℤ base) 0 rows j) of.rows right_is
      ∙ halves_priced s columns (count_slacks (lines_of s)) (length of.hs) (length columns + count_slacks (lines_of s) + length of.hs) (λ own l. l.side) (λ k. entry goal (start.shape.real + k) -ℤ base) (λ k. get_or all k (pos 0))
      (λ own place l h half. at_side s columns (count_slacks (lines_of s)) (length of.hs) own place l h half) 0 0 0 (lines_of s) of.hs of.halves_is turned
      ∙ own_line (λ k. get_or all k (pos 0)) 0 0 (lines_of s) (λ l. l.side))
      ∙ side

  pub are_shown : AreShown s columns scale value all
  are_shown =
      let slacks = slack_prices (λ k. get_or all k (pos 0)) 0 0 (count_slacks (lines_of s)) (lines_of s) (omega arith) (λ m within low. slack_total m within) in
      let limits = slacks_priced_append (λ k. get_or all k (pos 0)) 0 (map (node_line s) (row_nodes s) ++ map (loop_line s) s.loops) (map limit_line s.limits) slacks in
      record {
        counted = all_count;
        loops_some = λ k within. loops slacks k within;
        limits_some = λ k within.
            subst (λ (z : ℤ). pos 0 ≤ℤ z) (ap (λ n. get_or all (n + k) (pos 0)) (limits_place s all all_count) ∙ limits_at s all all_count k within)
            (slacks_priced_at limit_line (λ m. get_or all m (pos 0)) (0 + length (map (node_line s) (row_nodes s) ++ map (loop_line s) s.loops)) s.limits k (λ l. refl) limits within);
        columns_paid = λ j within. subst (λ (z : ℤ). (scale *ℤ sum_in (λ i. pos (step_at s i).cost) (get_or columns j [])) ≤ℤ z) (column_total j within) (structural j within);
        sides = sym (side_total s all all_count) ∙ sides_total;
      }
    where
      front : (fs bs : List Line) (k : ℕ) → SlacksPriced (λ m. get_or all m (pos 0)) k (fs ++ bs) → SlacksPriced (λ m. get_or all m (pos 0)) k fs
      front [] bs k priced = tt
      front (l ∷ fs) bs k priced = (priced.0, front fs bs (suc k) priced.1)

      loops : SlacksPriced (λ m. get_or all m (pos 0)) 0 (lines_of s) → (k : ℕ) → k < length s.loops → pos 0 ≤ℤ number_at (split_prices s all).loops k
      loops slacks k within =
          let both = front (map (node_line s) (row_nodes s) ++ map (loop_line s) s.loops) (map limit_line s.limits) 0 slacks in
          let own = slacks_priced_append (λ m. get_or all m (pos 0)) 0 (map (node_line s) (row_nodes s)) (map (loop_line s) s.loops) both in
          subst (λ (z : ℤ). pos 0 ≤ℤ z) (ap (λ n. get_or all (n + k) (pos 0)) (loops_place s all all_count) ∙ loops_at s all all_count k within)
          (slacks_priced_at (loop_line s) (λ m. get_or all m (pos 0)) (0 + length (map (node_line s) (row_nodes s))) s.loops k (λ l. refl) own within)
