-- The prices of nodes, and from them the potentials of all nodes.
use Rattle.std.proofs.Common.{◌≡◌, ℕ, zero, suc, ◌+◌, ◌-◌, ◌<◌, ◌≤◌, not, ℤ, pos, Bool, true, false, if◌then◌else◌, List, [], ◌∷◌, ◌++◌, map, get_or, take, drop, length, Option, None, Some, option_map, refl, sym, ap, ap₂, ◌∙◌, arith}
use Rattle.std.specs.List.{filter, range_with_len}
use Rattle.std.specs.Option.{is_some}
use Rattle.std.proofs.lemmas.Bool.{eq-eqb, ne_eqb}
use Rattle.std.proofs.lemmas.List.{drop_more}
use Rattle.wc_model.specs.declared.flow_system.Ray.{Ray}
use Rattle.wc_model.specs.declared.flow_system.System.{System}
use Rattle.wc_model.specs.Flow.Cells.{is_passed, row_nodes}
use Rattle.wc_model.specs.Flow.Places.{is_listed}
use Rattle.wc_model.specs.Flow.RowResults.{inner_potentials, numbered, potentials, price_of, split_prices}
use Rattle.wc_simplex.specs.declared.known_prices.KnownPrices as code
use Rattle.wc_simplex.specs.Inner.Columns.{ArePassed}
use Rattle.wc_simplex.specs.Inner.Prices.{AreKnown, ArePriced, IsKnownAs, known_ray, merged, next_row, node_price, node_prices, ray}
use Rattle.wc_simplex.proofs.CertifyLemmas.{filter_left}
use Rattle.wc_simplex.proofs.CountingLemmas.{range_kept}
use Rattle.wc_simplex.proofs.InnerLemmas.{keys, numbered_keys, price_skips, price_stays}
use Rattle.wc_simplex.proofs.LineSums.{price_unlisted, range_listed}
use Rattle.wc_simplex.proofs.OrderLemmas.{passed_tells}

node_prices_wide : (passed : List (Option ℕ)) (all : List ℤ) (next : ℕ) → length (node_prices passed all next) ≡ length passed
node_prices_wide [] all next = refl
node_prices_wide (o ∷ passed) all next = ap suc (node_prices_wide passed all (next_row o next))

node_prices_at : (s : System) (all : List ℤ) (k next : ℕ) (passed : List (Option ℕ)) → ((i : ℕ) → i < length passed → is_some (get_or passed i None) ≡ is_passed s (k + i))
    → next + length (filter (λ p. not (is_passed s p)) (range_with_len k (length passed))) ≤ length all → (q : ℕ) → q < length passed
    → get_or (node_prices passed all next) q (pos 0) ≡ price_of (numbered (filter (λ p. not (is_passed s p)) (range_with_len k (length passed))) (drop next all)) (k + q)
node_prices_at s all k next [] tells few q within = absurd (omega arith)
node_prices_at s all k next (o ∷ passed) tells few q within =
    by o (is_passed s k) refl (tells 0 (omega arith) ∙ ap (is_passed s) here) few q within (λ n fits m less. node_prices_at s all (k + 1) n passed later fits m less)
  where
    here : k + 0 ≡ k
    here = omega arith

    later : (i : ℕ) → i < length passed → is_some (get_or passed i None) ≡ is_passed s (k + 1 + i)
    later i less = let more : k + suc i ≡ k + 1 + i = omega arith in tells (suc i) (omega (arith, less)) ∙ ap (is_passed s) more

    by : (o : Option ℕ) (b : Bool) → is_passed s k ≡ b → is_some o ≡ is_passed s k → next + length (if not b then k ∷ filter (λ p. not (is_passed s p)) (range_with_len (k + 1) (length passed)) else filter (λ p. not (is_passed s p)) (range_with_len (k + 1) (length passed))) ≤ length all
        → (q : ℕ) → q < suc (length passed)
        → ((n : ℕ) → n + length (filter (λ p. not (is_passed s p)) (range_with_len (k + 1) (length passed))) ≤ length all → (m : ℕ) → m < length passed
        → get_or (node_prices passed all n) m (pos 0) ≡ price_of (numbered (filter (λ p. not (is_passed s p)) (range_with_len (k + 1) (length passed))) (drop n all)) (k + 1 + m))
        → get_or (node_price o all next ∷ node_prices passed all (next_row o next)) q (pos 0)
        ≡ price_of (numbered (if not b then k ∷ filter (λ p. not (is_passed s p)) (range_with_len (k + 1) (length passed)) else filter (λ p. not (is_passed s p)) (range_with_len (k + 1) (length passed))) (drop next all)) (k + q)
    by None true e f fits q less go = absurd (wrong (f ∙ e))
      where
        wrong : false ≡ true → ⊥
        wrong g = cc
    by (Some i) false e f fits q less go = absurd (wrong (f ∙ e))
      where
        wrong : true ≡ false → ⊥
        wrong g = cc
    by (Some i) true e f fits zero less go =
        sym (ap (price_of (numbered (filter (λ p. not (is_passed s p)) (range_with_len (k + 1) (length passed))) (drop next all))) here
        ∙ price_unlisted k (filter (λ p. not (is_passed s p)) (range_with_len (k + 1) (length passed))) (drop next all) (range_listed k (k + 1) (length passed) (λ p. not (is_passed s p)) (omega arith)))
    by (Some i) true e f fits (suc q) less go =
        let more : k + 1 + q ≡ k + suc q = omega arith in
        go next fits q (omega arith) ∙ ap (price_of (numbered (filter (λ p. not (is_passed s p)) (range_with_len (k + 1) (length passed))) (drop next all))) more
    by None false e f fits zero less go =
        sym
        (ap₂ (λ l n. price_of (numbered (k ∷ filter (λ p. not (is_passed s p)) (range_with_len (k + 1) (length passed))) l) n) (drop_more all next (pos 0) (omega (arith, fits))) here
        ∙ ap (λ b. if b then get_or all next (pos 0) else price_of (numbered (filter (λ p. not (is_passed s p)) (range_with_len (k + 1) (length passed))) (drop (next + 1) all)) k) (eq-eqb k k refl))
    by None false e f fits (suc q) less go =
        let more : k + 1 + q ≡ k + suc q = omega arith in
        go (next + 1) (omega (arith, fits)) q (omega arith) ∙ ap (price_of (numbered (filter (λ p. not (is_passed s p)) (range_with_len (k + 1) (length passed))) (drop (next + 1) all))) more
        ∙ sym
        (ap (λ l. price_of (numbered (k ∷ filter (λ p. not (is_passed s p)) (range_with_len (k + 1) (length passed))) l) (k + suc q)) (drop_more all next (pos 0) (omega (arith, fits)))
        ∙ ap (λ b. if b then get_or all next (pos 0) else price_of (numbered (filter (λ p. not (is_passed s p)) (range_with_len (k + 1) (length passed))) (drop (next + 1) all)) (k + suc q))
        (ne_eqb k (k + suc q) (λ same. omega (arith, same))))

passed_at : (s : System) (passed : List (Option ℕ)) → ArePassed s passed → (i : ℕ) → i < length passed → is_some (get_or passed i None) ≡ is_passed s i
passed_at s passed are i within = passed_tells s i (get_or passed i None) (are.each i (omega (arith, within, are.counted)))

pub split_is : (s : System) (passed : List (Option ℕ)) (all : List ℤ) (p : code.KnownPrices) → ArePassed s passed → length all ≡ length (row_nodes s) + length s.loops + length s.limits
    → p.nodes.items ≡ node_prices passed all 0 → p.loops.items ≡ take (length s.loops) (drop (length (row_nodes s)) all) → p.limits.items ≡ drop (length (row_nodes s) + length s.loops) all
    → ArePriced s (split_prices s all) p
split_is s passed all p are count nodes loops limits =
    record {
      counted = ap length nodes ∙ node_prices_wide passed all 0 ∙ are.counted;
      nodes = λ q within.
          let none : 0 + q ≡ q = omega arith in
          let rows : length (filter (λ p. not (is_passed s p)) (range_with_len 0 (length passed))) ≡ length (row_nodes s) = ap (λ n. length (filter (λ p. not (is_passed s p)) (range_with_len 0 n))) are.counted in
          ap (λ l. get_or l q (pos 0)) nodes
          ∙ node_prices_at s all 0 0 passed (λ i few. let zero_i : 0 + i ≡ i = omega arith in passed_at s passed are i few ∙ ap (is_passed s) (sym zero_i)) (omega (arith, rows, count)) q (omega (arith, within, are.counted))
          ∙ ap₂ (λ n m. price_of (numbered (filter (λ p. not (is_passed s p)) (range_with_len 0 n)) all) m) are.counted none;
      loops = loops;
      limits = limits;
    }

-- The potentials of all nodes.
pub ray_is : (s : System) (columns : List (List ℕ)) (scale : ℤ) (all : List ℤ) (passed : List (Option ℕ)) (p : code.KnownPrices) (nodes_now inner_now : List ℤ) (inner u v w : List ℤ) → ArePassed s passed
    → length all ≡ length (row_nodes s) + length s.loops + length s.limits → ArePriced s (split_prices s all) p → nodes_now ≡ p.nodes.items → inner_now ≡ inner
    → IsKnownAs s.nodes (inner_potentials s scale (split_prices s all) columns) (Some inner)
    → u ≡ map (merged passed nodes_now inner_now) (range_with_len 0 (length passed)) → v ≡ p.loops.items → w ≡ p.limits.items → Some (record { u = u; v = v; w = w }) ≡ known_ray s columns scale all
ray_is s columns scale all passed p nodes_now inner_now inner u v w are count priced same_nodes same_inner known is_u is_v is_w = by (inner_potentials s scale (split_prices s all) columns) known
  where
    make : List ℤ → List ℤ → List ℤ → Ray
    make a b c = record { u = a; v = b; w = c }

    nodes_are : keys (split_prices s all).nodes ≡ row_nodes s
    nodes_are = numbered_keys (row_nodes s) all (omega (arith, count))

    module_at : (us : List (ℕ × ℤ)) → AreKnown s.nodes inner us → (q : ℕ) → q < s.nodes → merged passed nodes_now inner_now q ≡ price_of ((split_prices s all).nodes ++ us) q
    module_at us knows q within = at (is_passed s q) refl
      where
        test : is_some (get_or passed q None) ≡ is_passed s q
        test = passed_at s passed are q (omega (arith, within, are.counted))

        at : (b : Bool) → is_passed s q ≡ b → merged passed nodes_now inner_now q ≡ price_of ((split_prices s all).nodes ++ us) q
        at true passes =
            ap (λ c. if c then get_or inner_now q (pos 0) else get_or nodes_now q (pos 0)) (test ∙ passes) ∙ ap (λ l. get_or l q (pos 0)) same_inner ∙ knows.each q within
            ∙ sym (price_skips (split_prices s all).nodes us q (ap (is_listed q) nodes_are ∙ filter_left q (λ p. not (is_passed s p)) (range_with_len 0 s.nodes) (ap not passes)))
        at false fails =
            ap (λ c. if c then get_or inner_now q (pos 0) else get_or nodes_now q (pos 0)) (test ∙ fails) ∙ ap (λ l. get_or l q (pos 0)) same_nodes ∙ priced.nodes q within
            ∙ sym (price_stays (split_prices s all).nodes us q (ap (is_listed q) nodes_are ∙ range_kept q 0 s.nodes (λ p. not (is_passed s p)) (omega arith) (omega (arith, within)) (ap not fails)))

    same_map : (f g : ℕ → ℤ) (k n most : ℕ) → ((q : ℕ) → q < most → f q ≡ g q) → k + n ≤ most → map f (range_with_len k n) ≡ map g (range_with_len k n)
    same_map f g k zero most each few = refl
    same_map f g k (suc n) most each few = ap₂ (λ x xs. x ∷ xs) (each k (omega (arith, few))) (same_map f g (k + 1) n most each (omega (arith, few)))

    by : (o : Option (List (ℕ × ℤ))) → IsKnownAs s.nodes o (Some inner) → Some (make u v w) ≡ option_map (λ us. ray (potentials s (split_prices s all) us) (split_prices s all)) o
    by None k = absurd (cc)
    by (Some us) k =
        ap Some
        (ap₂ (λ a b. make a b w) (is_u ∙ ap (λ n. map (merged passed nodes_now inner_now) (range_with_len 0 n)) are.counted
        ∙ same_map (merged passed nodes_now inner_now) (price_of ((split_prices s all).nodes ++ us)) 0 s.nodes s.nodes (module_at us k) (omega arith)) (is_v ∙ priced.loops)
        ∙ ap (make (potentials s (split_prices s all) us) (split_prices s all).loops) (is_w ∙ priced.limits))

pub no_ray : (s : System) (columns : List (List ℕ)) (scale : ℤ) (all : List ℤ) → IsKnownAs s.nodes (inner_potentials s scale (split_prices s all) columns) None → None ≡ known_ray s columns scale all
no_ray s columns scale all known = by (inner_potentials s scale (split_prices s all) columns) known
  where
    by : (o : Option (List (ℕ × ℤ))) → IsKnownAs s.nodes o None → None ≡ option_map (λ us. ray (potentials s (split_prices s all) us) (split_prices s all)) o
    by None k = refl
    by (Some us) k = absurd k
