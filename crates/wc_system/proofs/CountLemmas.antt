-- Counts of steps and nodes.
use Rattle.std.proofs.Common.{◌≡◌, ℕ, zero, suc, ◌==◌, ◌+◌, ◌*◌, ◌-◌, ◌^◌, ◌<◌, ◌≤◌, ◌&&◌, min, List, [], ◌∷◌, ◌++◌, length, map, set, drop, get_or, slice_get, slice_index, slice_index_or, Option, Some, None, Bool, true, false, not, cond, if◌then◌else◌, refl, sym, ap, ap₂, subst, inl, inr, ◌∙◌, arith}
use Rattle.std.proofs.lemmas.Bool.{cases_lt}
use Rattle.std.proofs.lemmas.Bool.Decides.{nat_tests}
use Rattle.std.proofs.lemmas.Grind.{get_or-set_at}
use Rattle.std.proofs.lemmas.List.{get_or-set_other, length-append, length-map, length-set}
use Rattle.std.proofs.lemmas.Option.{slice_get_within, get_or_from_slice_get, slice_get-get_or}
use Rattle.std.specs.List.{filter, range_with_len}
use Rattle.std.specs.Prelude.{◌⊎◌, All, IfSome}
use Rattle.wc_model.specs.declared.flow_system.System.{System}
use Rattle.wc_model.specs.declared.flow_system.SystemStep.{SystemStep}
use Rattle.wc_model.specs.Flow.Cells.{column_of, columns_of, first_steps, in_order, is_passed, row_nodes, with_column, starts_before}
use Rattle.wc_model.specs.Flow.Places.{places_from}
use Rattle.wc_model.specs.Flow.Systems.{leads_to}
use Rattle.wc_system.specs.Inner.Counted.{AreCounts, ArePassed, cells_with, enters_node, leaves_node, raised, rows_from}

-- the step at a place, and those after it
pub first_of : {X : Type 0} (xs : List X) (i : ℕ) → i < length xs → (x : X) × (slice_get xs i ≡ Some x) × (drop i xs ≡ x ∷ drop (i + 1) xs)
first_of {X} xs i within =
    let found : (x : X) × (slice_get xs i ≡ Some x) × (drop i xs ≡ x ∷ drop (suc i) xs) = from xs i within in
    let next : suc i ≡ i + 1 = omega arith in
    (found.0, found.1, found.2 ∙ ap (λ n. found.0 ∷ drop n xs) next)
  where
    from : (xs : List X) (i : ℕ) → i < length xs → (x : X) × (slice_get xs i ≡ Some x) × (drop i xs ≡ x ∷ drop (suc i) xs)
    from [] i within = absurd (omega arith)
    from (x ∷ xs) zero within = (x, refl, refl)
    from (x ∷ xs) (suc i) within = from xs i (omega arith)

counted_first : {X : Type 0} (test : ℕ → X → Bool) (place : ℕ) (x : X) (rest : List X) → length (places_from place test (x ∷ rest)) ≡ (if test place x then 1 else 0) + length (places_from (place + 1) test rest)
counted_first test place x rest = by (test place x)
  where
    by : (b : Bool) → length (if b then place ∷ places_from (place + 1) test rest else places_from (place + 1) test rest) ≡ (if b then 1 else 0) + length (places_from (place + 1) test rest)
    by true = omega arith
    by false = omega arith

turned : (b : Bool) → ◌≡◌ {A = ℕ} (if not b then 1 else 0) (if b then 0 else 1)
turned true = refl
turned false = refl

-- rows: one node more
pub row_next : (s : System) (passed : List Bool) (node count one : ℕ) → ArePassed s s.nodes passed → node < s.nodes → one ≡ (if slice_index_or passed node false then 0 else 1)
    → count + one + length (rows_from s (node + 1)) ≡ count + length (rows_from s node)
row_next s passed node count one are within is =
    let more : s.nodes - node ≡ suc (s.nodes - (node + 1)) = omega arith in
    let rest : ℕ = length (rows_from s (node + 1)) in
    omega (arith, is, ap {B = ℕ} (λ b. if b then 0 else 1) (are.each node within), by (is_passed s node), ap (λ n. length (filter (λ p. not (is_passed s p)) (range_with_len node n))) more)
  where
    by : (b : Bool) → length (cond (not b) (node ∷ rows_from s (node + 1)) (rows_from s (node + 1))) ≡ (if b then 0 else 1) + length (rows_from s (node + 1))
    by true = omega arith
    by false = omega arith

-- columns: one step more
pub column_next : (s : System) (passed : List Bool) (place count one : ℕ) → ArePassed s s.nodes passed → All (λ t. t.source < s.nodes) s.steps → place < length s.steps
    → ((t : SystemStep) → slice_get s.steps place ≡ Some t → one ≡ (if slice_index_or passed t.source false then 0 else 1))
    → count + one + length (places_from (place + 1) (λ i t. not (is_passed s t.source)) (drop (place + 1) s.steps)) ≡ count + length (places_from place (λ i t. not (is_passed s t.source)) (drop place s.steps))
column_next s passed place count one are sources within is =
    let here : (t : SystemStep) × (slice_get s.steps place ≡ Some t) × (drop place s.steps ≡ t ∷ drop (place + 1) s.steps) = first_of s.steps place within in
    let source : here.0.source < s.nodes = subst (λ t. t.source < s.nodes) (get_or_from_slice_get s.steps place here.0 here.0 here.1) (sources place here.0 within) in
    omega (
      arith,
      is here.0 here.1,
      ap {B = ℕ} (λ b. if b then 0 else 1) (are.each here.0.source source),
      turned (is_passed s here.0.source),
      counted_first (λ i t. not (is_passed s t.source)) place here.0 (drop (place + 1) s.steps),
      ap (λ xs. length (places_from place (λ i t. not (is_passed s t.source)) xs)) here.2,
    )

-- Counts of a node's steps: one step more.
no_more : {X : Type 0} (xs : List X) → drop (length xs) xs ≡ []
no_more [] = refl
no_more (x ∷ xs) = no_more xs

pub counts_all : (passes : ℕ → SystemStep → Bool) (steps : List SystemStep) (nodes : ℕ) (counts : List ℕ) (p : ℕ) → AreCounts passes steps nodes (length steps) counts → p < nodes
    → slice_index counts p ≡ length (places_from 0 (λ i t. passes p t) steps)
counts_all passes steps nodes counts p are within =
    omega (arith, are.each p within, ap (λ xs. length (places_from (length steps) (λ i t. passes p t) xs)) (no_more steps))

pub target_next : (steps : List SystemStep) (nodes place : ℕ) (counts : List ℕ) (target : Option ℕ) → AreCounts enters_node steps nodes place counts → place < length steps
    → IfSome target (λ q. q < nodes) → ((t : SystemStep) → slice_get steps place ≡ Some t → target ≡ t.target) → AreCounts enters_node steps nodes (place + 1) (raised target counts)
target_next steps nodes place counts target are within inside is =
    let here : (t : SystemStep) × (slice_get steps place ≡ Some t) × (drop place steps ≡ t ∷ drop (place + 1) steps) = first_of steps place within in
    by target inside here.0 (is here.0 here.1) here.2
  where
    raised_at : (p q : ℕ) → p < nodes → q < nodes → slice_index (set counts q (slice_index counts q + 1)) p ≡ (if q == p then 1 else 0) + slice_index counts p
    raised_at p q p-within q-within = by (q == p) refl
      where
        by : (b : Bool) → (q == p) ≡ b → slice_index (set counts q (slice_index counts q + 1)) p ≡ (if b then 1 else 0) + slice_index counts p
        by true is' =
            let same : p ≡ q = grind (arith, nat_tests) in
            get_or-set_at counts q p (slice_index counts q + 1) 0 same (omega (arith, are.counted)) ∙ omega (arith, ap (slice_index counts) same)
        by false is' =
            let apart : p ≡ q → ⊥ = λ same. absurd (grind (arith, nat_tests)) in
            get_or-set_other counts q p (slice_index counts q + 1) 0 apart ∙ omega arith

    by : (o : Option ℕ) → IfSome o (λ q. q < nodes) → (t : SystemStep) → o ≡ t.target → drop place steps ≡ t ∷ drop (place + 1) steps → AreCounts enters_node steps nodes (place + 1) (raised o counts)
    by None inside' t leads rest = record {
      counted = are.counted;
      few = λ p p-within. omega (arith, are.few p p-within);
      each = λ p p-within. omega (
        arith,
        are.each p p-within,
        counted_first (λ i s. enters_node p s) place t (drop (place + 1) steps),
        ap (λ xs. length (places_from place (λ i s. enters_node p s) xs)) rest,
        ap {B = ℕ} (λ o. if leads_to o p then 1 else 0) leads,
      );
    }
    by (Some q) inside' t leads rest = record {
      counted = length-set counts q (slice_index counts q + 1) ∙ are.counted;
      few = λ p p-within. omega (arith, raised_at p q p-within inside', at_most (q == p), are.few p p-within);
      each = λ p p-within. omega (
        arith,
        raised_at p q p-within inside',
        are.each p p-within,
        counted_first (λ i s. enters_node p s) place t (drop (place + 1) steps),
        ap (λ xs. length (places_from place (λ i s. enters_node p s) xs)) rest,
        ap {B = ℕ} (λ o. if leads_to o p then 1 else 0) leads,
      );
    }
      where
        at_most : (b : Bool) → (if b then 1 else 0) ≤ 1
        at_most true = omega arith
        at_most false = omega arith

-- passed nodes: one node more
pub passed_next : (s : System) (node : ℕ) (passed : List Bool) (ins outs : ℕ) (last : Bool) → ArePassed s node passed
    → ins ≡ length (places_from 0 (λ i t. enters_node node t) s.steps) → outs ≡ length (places_from 0 (λ i t. leaves_node node t) s.steps)
    → last ≡ (not (node == s.start) && ins == 1 && outs == 1) → ArePassed s (node + 1) (passed ++ last ∷ [])
passed_next s node passed ins outs last are ins-are outs-are is = record {
  counted = length-append passed (last ∷ []) ∙ ap (λ n. n + 1) are.counted;
  each = λ p within. by p (cases_lt p node) within;
}
  where
    front : (xs : List Bool) (k : ℕ) → k < length xs → slice_index_or (xs ++ last ∷ []) k false ≡ slice_index_or xs k false
    front [] k below = absurd (omega arith)
    front (x ∷ xs) zero below = refl
    front (x ∷ xs) (suc k) below = front xs k (omega arith)

    end : (xs : List Bool) (k : ℕ) → length xs ≡ k → slice_index_or (xs ++ last ∷ []) k false ≡ last
    end [] zero same = refl
    end [] (suc k) same = absurd (omega arith)
    end (x ∷ xs) zero same = absurd (omega arith)
    end (x ∷ xs) (suc k) same = end xs k (omega arith)

    by : (p : ℕ) → (p < node) ⊎ (node ≤ p) → p < node + 1 → slice_index_or (passed ++ last ∷ []) p false ≡ is_passed s p
    by p (inl less) within = front passed p (omega (arith, are.counted)) ∙ are.each p less
    by p (inr more) within =
        let same : p ≡ node = omega arith in
        subst (λ n. slice_index_or (passed ++ last ∷ []) n false ≡ is_passed s n) (sym same)
        (end passed node are.counted ∙ is ∙ ap₂ (λ a b. not (node == s.start) && a == 1 && b == 1) ins-are outs-are)

-- an order of the columns keeps their number
with_one : (steps : List SystemStep) (column : List ℕ) (columns : List (List ℕ)) → length (with_column steps column columns) ≡ suc (length columns)
with_one steps column [] = refl
with_one steps column (other ∷ columns) = by (starts_before steps column other) (with_one steps column columns)
  where
    by : (b : Bool) → length (with_column steps column columns) ≡ suc (length columns)
        → length (if b then column ∷ other ∷ columns else other ∷ with_column steps column columns) ≡ suc (suc (length columns))
    by true rest = refl
    by false rest = ap suc rest

ordered : (steps : List SystemStep) (columns : List (List ℕ)) → length (in_order steps columns) ≡ length columns
ordered steps [] = refl
ordered steps (column ∷ columns) = with_one steps column (in_order steps columns) ∙ ap suc (ordered steps columns)

pub columns_counted : (s : System) → length (columns_of s) ≡ length (first_steps s)
columns_counted s = ordered s.steps (map (column_of s) (first_steps s)) ∙ length-map (first_steps s) (column_of s)

pub cells_are : (s : System) (limits rows columns slacks : ℕ) → rows ≡ length (row_nodes s) → columns ≡ length (first_steps s) → slacks ≡ length s.loops + limits
    → (rows + slacks + 2) * (columns + slacks + (rows + slacks) + 2) ≡ cells_with s limits
cells_are s limits rows columns slacks rows-are columns-are slacks-are = ap₂ (λ a b. a * b) left right
  where
    left : rows + slacks + 2 ≡ length (row_nodes s) + length s.loops + limits + 2
    left = omega (arith, rows-are, slacks-are)

    right : columns + slacks + (rows + slacks) + 2 ≡ length (columns_of s) + (length s.loops + limits) + (length (row_nodes s) + length s.loops + limits) + 2
    right = omega (arith, rows-are, slacks-are, columns-are, columns_counted s)

pub target_within : (steps : List SystemStep) (nodes place : ℕ) (target : Option ℕ) → All (λ t. IfSome t.target (λ q. q < nodes)) steps → place < length steps
    → ((t : SystemStep) → slice_get steps place ≡ Some t → target ≡ t.target) → IfSome target (λ q. q < nodes)
target_within steps nodes place target targets within is =
    let none : SystemStep = record { source = 0; target = None; cost = 0 } in
    subst (λ o. IfSome o (λ q. q < nodes)) (sym (is (get_or steps place none) (slice_get-get_or steps place none within))) (targets place none within)

-- a number that was read at a place
pub read_at : (xs : List ℕ) (i x n : ℕ) → length xs ≡ n → i < n → x ≡ get_or xs i x → x ≡ slice_index xs i
read_at xs i x n counted within is = is ∙ get_or_from_slice_get xs i (get_or xs i 0) x (slice_get-get_or xs i 0 (omega (arith, counted, within)))
