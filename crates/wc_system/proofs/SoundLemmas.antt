-- Places and nodes are in range, and each stands once in a list.
use Rattle.std.proofs.Common.{◌≡◌, ℕ, zero, suc, ◌==◌, ◌+◌, ◌^◌, ◌<◌, ◌≤◌, ◌||◌, ℤ, List, [], ◌∷◌, ◌++◌, length, map, get_or, slice_get, slice_index, slice_index_or, Option, Some, None, Bool, true, false, cond, if◌then◌else◌, refl, sym, ap, ap₂, subst, ◌∙◌, arith}
use Rattle.std.proofs.lemmas.Bool.Decides.{nat_tests}
use Rattle.std.proofs.lemmas.List.Elements.{All-cons, All-from_recursion, All-tail}
use Rattle.std.proofs.lemmas.Option.{slice_get-get_or, slice_get_within}
use Rattle.std.specs.List.{AllByRecursion, filter, flat_map}
use Rattle.std.specs.Prelude.{All, IfSome}
use Rattle.wc_base.proofs.EachLemmas.{each_append}
use Rattle.wc_model.specs.declared.flow_facts.Fact.{Fact}
use Rattle.wc_model.specs.declared.flow_facts.Fact.TheVariants.{Loop, Multibranch, Multicall, Noreturn, Checksum, Limit}
use Rattle.wc_model.specs.declared.flow_facts.Term.{Term}
use Rattle.wc_model.specs.declared.flow_system.System.{System}
use Rattle.wc_model.specs.declared.flow_system.SystemLoop.{SystemLoop}
use Rattle.wc_model.specs.declared.flow_system.SystemStep.{SystemStep}
use Rattle.wc_model.specs.declared.graphs.Bounds.{Bounds}
use Rattle.wc_model.specs.declared.graphs.Costs.{Costs}
use Rattle.wc_model.specs.declared.graphs.Graph.{Graph}
use Rattle.wc_model.specs.declared.graphs.Head.{Head}
use Rattle.wc_model.specs.declared.graphs.Nest.{Nest}
use Rattle.wc_model.specs.declared.graphs.Node.{Node}
use Rattle.wc_model.specs.declared.graphs.Step.{Step}
use Rattle.wc_model.specs.Flow.Places.{is_listed, IsOnce, places_from, places_of}
use Rattle.wc_model.specs.Flow.Systems.{ArePlaces, IsNestShape, IsSystem, IsSystemLoop, IsSystemOf, counts_some, fact_limits, factor_pairs, is_back, is_entry, named_by, node_position, stated_factor, system_loop, system_loops, system_steps}
use Rattle.wc_model.specs.Program.Graphs.{IsGraph}
use Rattle.wc_system.specs.Inner.Capped.{AreSmall}
use Rattle.wc_system.specs.Inner.Unlimited.{facts_limits, with_limits}

pub all_none : {X : Type 0} (P : X → Type 0) → All P []
all_none P k d within = absurd (omega (arith, within))

all_wider : (a b : ℕ) (ns : List ℕ) → a ≤ b → All (λ n. n < a) ns → All (λ n. n < b) ns
all_wider a b ns le all k d within = omega (arith, le, all k d within)

apart : (n m : ℕ) → n < m → (n == m) ≡ false
apart n m less = grind (arith, nat_tests)

-- the places of elements that pass a test
module _ {X : Type 0} (test : ℕ → X → Bool) where
  not_before : (n first : ℕ) (xs : List X) → n < first → is_listed n (places_from first test xs) ≡ false
  not_before n first [] before = refl
  not_before n first (x ∷ xs) before = by (test first x) (not_before n (first + 1) xs (omega (arith, before)))
    where
      by : (b : Bool) → is_listed n (places_from (first + 1) test xs) ≡ false → is_listed n (if b then first ∷ places_from (first + 1) test xs else places_from (first + 1) test xs) ≡ false
      by true rest = ap₂ (λ a b. a || b) (apart n first before) rest
      by false rest = rest

  places_once : (first : ℕ) (xs : List X) → IsOnce (places_from first test xs)
  places_once first [] = tt
  places_once first (x ∷ xs) = by (test first x) (places_once (first + 1) xs)
    where
      by : (b : Bool) → IsOnce (places_from (first + 1) test xs) → IsOnce (if b then first ∷ places_from (first + 1) test xs else places_from (first + 1) test xs)
      by true rest = (not_before first (first + 1) xs (omega arith), rest)
      by false rest = rest

  places_within : (first : ℕ) (xs : List X) → All (λ i. i < first + length xs) (places_from first test xs)
  places_within first [] = all_none (λ i. i < first + 0)
  places_within first (x ∷ xs) = by (test first x) (all_wider (first + 1 + length xs) (first + suc (length xs)) (places_from (first + 1) test xs) (omega arith) (places_within (first + 1) xs))
    where
      by : (b : Bool) → All (λ i. i < first + suc (length xs)) (places_from (first + 1) test xs)
          → All (λ i. i < first + suc (length xs)) (if b then first ∷ places_from (first + 1) test xs else places_from (first + 1) test xs)
      by true rest = All-cons (λ i. i < first + suc (length xs)) first (places_from (first + 1) test xs) (omega arith) rest
      by false rest = rest

  places_are : (xs : List X) → ArePlaces (length xs) (places_of test xs)
  places_are xs = (all_wider (0 + length xs) (length xs) (places_of test xs) (omega arith) (places_within 0 xs), places_once 0 xs)

-- the nodes that a limit names
module _ (graph : Graph) (left right : List Term) where
  abbrev names_from : ℕ → List Node → List ℕ
  names_from first nodes = map (λ f. f.0) (filter counts_some (factor_pairs graph left right first nodes))

  not_named : (n first : ℕ) (nodes : List Node) → n < first → is_listed n (names_from first nodes) ≡ false
  not_named n first [] before = refl
  not_named n first (node ∷ nodes) before = by (counts_some (pair node)) (not_named n (first + 1) nodes (omega (arith, before)))
    where
      pair : Node → ℕ × ℤ
      pair m = (first, stated_factor left right (node_position graph m))

      by : (b : Bool) → is_listed n (names_from (first + 1) nodes) ≡ false → is_listed n (map (λ f. f.0) (cond b ((first, stated_factor left right (node_position graph node)) ∷ filter counts_some (factor_pairs graph left right (first + 1) nodes)) (filter counts_some (factor_pairs graph left right (first + 1) nodes)))) ≡ false
      by true rest = ap₂ (λ a b. a || b) (apart n first before) rest
      by false rest = rest

  names_once : (first : ℕ) (nodes : List Node) → IsOnce (names_from first nodes)
  names_once first [] = tt
  names_once first (node ∷ nodes) = by (counts_some (first, stated_factor left right (node_position graph node))) (names_once (first + 1) nodes)
    where
      by : (b : Bool) → IsOnce (names_from (first + 1) nodes) → IsOnce (map (λ f. f.0) (cond b ((first, stated_factor left right (node_position graph node)) ∷ filter counts_some (factor_pairs graph left right (first + 1) nodes)) (filter counts_some (factor_pairs graph left right (first + 1) nodes))))
      by true rest = (not_named first (first + 1) nodes (omega arith), rest)
      by false rest = rest

  names_within : (first : ℕ) (nodes : List Node) → All (λ n. n < first + length nodes) (names_from first nodes)
  names_within first [] = all_none (λ i. i < first + 0)
  names_within first (node ∷ nodes) = by (counts_some (first, stated_factor left right (node_position graph node)))
      (all_wider (first + 1 + length nodes) (first + suc (length nodes)) (names_from (first + 1) nodes) (omega arith) (names_within (first + 1) nodes))
    where
      by : (b : Bool) → All (λ n. n < first + suc (length nodes)) (names_from (first + 1) nodes)
          → All (λ n. n < first + suc (length nodes)) (map (λ f. f.0) (cond b ((first, stated_factor left right (node_position graph node)) ∷ filter counts_some (factor_pairs graph left right (first + 1) nodes)) (filter counts_some (factor_pairs graph left right (first + 1) nodes))))
      by true rest = All-cons (λ n. n < first + suc (length nodes)) first (names_from (first + 1) nodes) (omega arith) rest
      by false rest = rest

  names_are : ArePlaces (length graph.nodes) (names_from 0 graph.nodes)
  names_are = (all_wider (0 + length graph.nodes) (length graph.nodes) (names_from 0 graph.nodes) (omega arith) (names_within 0 graph.nodes), names_once 0 graph.nodes)

pub limits_are : (graph : Graph) (facts : List (ℕ × Fact)) → All (λ l. ArePlaces (length graph.nodes) (named_by l)) (facts_limits graph facts)
limits_are graph facts = All-from_recursion (λ l. ArePlaces (length graph.nodes) (named_by l)) (facts_limits graph facts) (each facts)
  where
    one : (fact : Fact) → AllByRecursion (λ l. ArePlaces (length graph.nodes) (named_by l)) (fact_limits graph fact)
    one (Limit left right) = (names_are graph left right, tt)
    one (Loop _ _ _) = tt
    one (Multibranch _ _) = tt
    one (Multicall _ _) = tt
    one (Noreturn _) = tt
    one (Checksum _ _) = tt

    each : (fs : List (ℕ × Fact)) → AllByRecursion (λ l. ArePlaces (length graph.nodes) (named_by l)) (facts_limits graph fs)
    each [] = tt
    each (f ∷ fs) = each_append (λ l. ArePlaces (length graph.nodes) (named_by l)) (fact_limits graph f.1) (facts_limits graph fs) (one f.1) (each fs)

-- the steps and the loops
pub steps_counted : (steps : List Step) (costs : List ℕ) → length costs ≡ length steps → length (system_steps steps costs) ≡ length steps
steps_counted [] costs counted = refl
steps_counted (s ∷ ss) [] counted = absurd (omega (arith, counted))
steps_counted (s ∷ ss) (c ∷ cs) counted = ap suc (steps_counted ss cs (omega (arith, counted)))

pub steps_all : (P : ℕ → Option ℕ → Type 0) (steps : List Step) (costs : List ℕ) → All (λ s. P s.source s.target) steps → All (λ t. P t.source t.target) (system_steps steps costs)
steps_all P [] costs all = all_none (λ t. P t.source t.target)
steps_all P (s ∷ ss) [] all = all_none (λ t. P t.source t.target)
steps_all P (s ∷ ss) (c ∷ cs) all =
    All-cons (λ t. P t.source t.target) (record { source = s.source; target = s.target; cost = c }) (system_steps ss cs) (all zero s (omega arith))
    (steps_all P ss cs (All-tail (λ t. P t.source t.target) s ss all))

pub loops_are : (s : System) (nest : Nest) (heads : List Head) (bounds : List ℕ) → All (λ h. h.node < s.nodes) heads → AreSmall bounds → All (IsSystemLoop s) (system_loops nest s.steps heads bounds)
loops_are s nest [] bounds inside small = all_none (IsSystemLoop s)
loops_are s nest (h ∷ hs) [] inside small = all_none (IsSystemLoop s)
loops_are s nest (h ∷ hs) (n ∷ ns) inside small =
    All-cons (IsSystemLoop s) (system_loop nest s.steps h n) (system_loops nest s.steps hs ns)
    (record { head = inside zero h (omega arith); bound = small zero; back = places_are (is_back nest h.node) s.steps; entry = places_are (is_entry nest h.node) s.steps })
    (loops_are s nest hs ns (All-tail (λ g. g.node < s.nodes) h hs inside) (λ k. small (suc k)))

pub bounds_kept : (nest : Nest) (steps : List SystemStep) (heads : List Head) (bounds : List ℕ) → length bounds ≡ length heads → map (λ l. l.bound) (system_loops nest steps heads bounds) ≡ bounds
bounds_kept nest steps [] [] counted = refl
bounds_kept nest steps [] (n ∷ ns) counted = absurd (omega (arith, counted))
bounds_kept nest steps (h ∷ hs) [] counted = absurd (omega (arith, counted))
bounds_kept nest steps (h ∷ hs) (n ∷ ns) counted = ap (λ bs. n ∷ bs) (bounds_kept nest steps hs ns (omega (arith, counted)))
