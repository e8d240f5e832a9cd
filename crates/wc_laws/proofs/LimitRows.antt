-- A path that meets the facts meets the rows of the stated limits.
use Rattle.std.proofs.Common.{ℕ, zero, suc, ◌≡◌, ◌==◌, ◌+◌, ◌*◌, ◌≤◌, ℤ, pos, negsuc, ◌+ℤ◌, ◌-ℤ◌, ◌*ℤ◌, unsigned_abs, Bool, true, false, not, cond, if◌then◌else◌, List, [], ◌∷◌, map, Some, refl, sym, ap, ap₂, subst, ◌∙◌, arith}
use Rattle.std.proofs.Math.IntN.{zero-*ℤ, *ℤ-zero}
use Rattle.std.specs.Prelude.{All}
use Rattle.std.specs.List.{AllByRecursion, AllZip, Contains, filter, slice_get}
use Rattle.std.proofs.lemmas.Bool.{true≢false}
use Rattle.std.proofs.lemmas.Bool.Decides.{nat_tests}
use Rattle.std.proofs.lemmas.Int.{ints}
use Rattle.std.proofs.lemmas.List.Elements.{All-from_recursion}
use Rattle.wc_base.specs.Sums.{sum_placed, sum_in, chosen}
use Rattle.wc_base.proofs.EachLemmas.{each_append}
use Rattle.wc_base.proofs.Products.{*ℤ-suc}
use Rattle.wc_base.proofs.SumLemmas.{sum_add, sum_pick, sum_same, sum_zero}
use Rattle.wc_model.specs.declared.flow_facts.Fact.{Fact}
use Rattle.wc_model.specs.declared.flow_facts.Fact.TheVariants.{Loop, Multibranch, Multicall, Noreturn, Checksum, Limit}
use Rattle.wc_model.specs.declared.flow_facts.Term.{Term}
use Rattle.wc_model.specs.declared.flow_facts.Term.TheVariants.{Constant, Visits}
use Rattle.wc_model.specs.declared.flow_system.SystemStep.{SystemStep}
use Rattle.wc_model.specs.declared.graphs.Graph.{Graph}
use Rattle.wc_model.specs.declared.graphs.Node.{Node}
use Rattle.wc_model.specs.Flow.Bounds.{MeetsLimits, fits, sum_value, visits}
use Rattle.wc_model.specs.Flow.SystemWalks.{MeetsLimit, is_from, leaves}
use Rattle.wc_model.specs.Flow.Systems.{constant_in, counts_some, fact_limits, factor_pairs, node_position, stated_factor, stated_limit, times_in}
use Rattle.wc_model.specs.Program.Steps.{Step}
use Rattle.wc_nest.proofs.ListLemmas.{contains_head, contains_tail}
use Rattle.wc_system.specs.Inner.Unlimited.{facts_limits}

-- how often a side of a limit counts the positions that a path leaves
abbrev pub path_times : List Step → List Term → ℕ
path_times [] terms = 0
path_times (s ∷ path) terms = times_in s.source terms + path_times path terms

no_times : (path : List Step) → path_times path [] ≡ 0
no_times [] = refl
no_times (s ∷ path) = omega (arith, no_times path)

constant_times : (n : ℕ) (terms : List Term) (path : List Step) → path_times path (Constant n ∷ terms) ≡ path_times path terms
constant_times n terms [] = refl
constant_times n terms (s ∷ path) = ap (λ m. times_in s.source terms + m) (constant_times n terms path)

one_visit : (b : Bool) (times more : ℕ) → times * ((if b then 1 else 0) + more) ≡ (if b then times else 0) + times * more
one_visit true times more =
    let same : 1 + more ≡ suc more = omega arith in
    let product : times * suc more ≡ times + times * more = omega arith in
    ap (λ n. times * n) same ∙ product
one_visit false times more =
    let same : 0 + more ≡ more = omega arith in
    let sum : times * more ≡ 0 + times * more = omega arith in
    ap (λ n. times * n) same ∙ sum

visit_times : (times at : ℕ) (within : List ℕ) (terms : List Term) (path : List Step) → path_times path (Visits times at within ∷ terms) ≡ times * visits at within path + path_times path terms
visit_times times at within terms [] = omega arith
visit_times times at within terms (s ∷ path) =
    let here : times * visits at within (s ∷ path) ≡ (if fits at within s.source then times else 0) + times * visits at within path = one_visit (fits at within s.source) times (visits at within path) in
    omega (arith, here, visit_times times at within terms path)

-- a side of a limit is its constant and its visits
pub side_value : (terms : List Term) (path : List Step) → sum_value path terms ≡ constant_in terms + path_times path terms
side_value [] path = omega (arith, no_times path)
side_value (Constant n ∷ terms) path = omega (arith, side_value terms path, constant_times n terms path)
side_value (Visits times at within ∷ terms) path = omega (arith, side_value terms path, visit_times times at within terms path)

-- The factors of a limit, and the nodes that a walk leaves.
some_counts : (n : ℕ) → not (suc n == 0) ≡ true
some_counts n = grind (arith, nat_tests)

zero_abs : (z : ℤ) → not (unsigned_abs z == 0) ≡ false → z ≡ pos 0
zero_abs (pos zero) is = refl
zero_abs (pos (suc n)) is = absurd (true≢false (sym (some_counts n) ∙ is))
zero_abs (negsuc n) is = absurd (true≢false (sym (some_counts n) ∙ is))

-- factors of 0 add nothing
filtered : (g : ℕ → ℤ) (fs : List (ℕ × ℤ)) → sum_in (λ f. f.1 *ℤ g f.0) (filter counts_some fs) ≡ sum_in (λ f. f.1 *ℤ g f.0) fs
filtered g [] = refl
filtered g (f ∷ fs) = by (counts_some f) refl (filtered g fs)
  where
    by : (b : Bool) → counts_some f ≡ b → sum_in (λ f. f.1 *ℤ g f.0) (filter counts_some fs) ≡ sum_in (λ f. f.1 *ℤ g f.0) fs
        → sum_in (λ f. f.1 *ℤ g f.0) (cond b (f ∷ filter counts_some fs) (filter counts_some fs)) ≡ sum_in (λ f. f.1 *ℤ g f.0) (f ∷ fs)
    by true is rest = ap (λ z. f.1 *ℤ g f.0 +ℤ z) rest
    by false is rest =
        let none : f.1 *ℤ g f.0 ≡ pos 0 = ap (λ z. z *ℤ g f.0) (zero_abs f.1 is) ∙ zero-*ℤ (g f.0) in
        omega (arith, ints, none, rest)

one_leaving : (b : Bool) (w : ℤ) (more : ℕ) → w *ℤ pos ((if b then 1 else 0) + more) ≡ chosen b w +ℤ w *ℤ pos more
one_leaving true w more =
    let same : 1 + more ≡ suc more = omega arith in
    omega (arith, ints, ap (λ n. w *ℤ pos n) same, *ℤ-suc w more)
one_leaving false w more =
    let same : 0 + more ≡ more = omega arith in
    omega (arith, ints, ap (λ n. w *ℤ pos n) same)

-- the step at a place leaves the node that stands for its source
pub record IsLeft (graph : Graph) (steps : List SystemStep) (i : ℕ) (s : Step) : Type 0 where
  pub numbered : SystemStep
  pub there : slice_get steps i ≡ Some numbered
  pub node : Node
  pub source : slice_get graph.nodes numbered.source ≡ Some node
  pub position : node_position graph node ≡ s.source

module _ (graph : Graph) (steps : List SystemStep) (left right : List Term) where
  abbrev weight : Node → ℤ
  weight n = stated_factor left right (node_position graph n)

  pairs_sum : (g : ℕ → ℤ) (first : ℕ) (nodes : List Node) → sum_in (λ f. f.1 *ℤ g f.0) (factor_pairs graph left right first nodes) ≡ sum_placed (λ k n. weight n *ℤ g (first + k)) nodes
  pairs_sum g first [] = refl
  pairs_sum g first (n ∷ nodes) =
      let here : first ≡ first + zero = omega arith in
      let later : (k : ℕ) → first + 1 + k ≡ first + suc k = λ k. omega arith in
      ap₂ (λ a b. a +ℤ b) (ap (λ m. weight n *ℤ g m) here)
      (pairs_sum g (first + 1) nodes ∙ sum_same (λ k m. weight m *ℤ g (first + 1 + k)) (λ k m. weight m *ℤ g (first + suc k)) nodes (λ k m at. ap (λ j. weight m *ℤ g j) (later k)))

  -- one step more of a walk
  leaving : (i : ℕ) (s : Step) (places : List ℕ) → IsLeft graph steps i s
      → sum_placed (λ k n. weight n *ℤ pos (leaves steps k (i ∷ places))) graph.nodes ≡ stated_factor left right s.source +ℤ sum_placed (λ k n. weight n *ℤ pos (leaves steps k places)) graph.nodes
  leaving i s places is =
      sum_same (λ k n. weight n *ℤ pos (leaves steps k (i ∷ places))) (λ k n. chosen (is.numbered.source == k) (weight n) +ℤ weight n *ℤ pos (leaves steps k places)) graph.nodes
      (λ k n at. ap (λ o. weight n *ℤ pos ((if is_from k o then 1 else 0) + leaves steps k places)) is.there ∙ one_leaving (is.numbered.source == k) (weight n) (leaves steps k places))
      ∙ sum_add (λ k n. chosen (is.numbered.source == k) (weight n)) (λ k n. weight n *ℤ pos (leaves steps k places)) graph.nodes
      ∙ ap (λ z. z +ℤ sum_placed (λ k n. weight n *ℤ pos (leaves steps k places)) graph.nodes)
      (sum_pick (λ k n. weight n) graph.nodes is.numbered.source is.node is.source ∙ ap (stated_factor left right) is.position)

  module _ (At : ℕ → Step → Type 0) (known : (i : ℕ) (s : Step) → At i s → IsLeft graph steps i s) where
    walk_sum : (places : List ℕ) (path : List Step) → AllZip At places path → sum_placed (λ k n. weight n *ℤ pos (leaves steps k places)) graph.nodes ≡ pos (path_times path left) -ℤ pos (path_times path right)
    walk_sum [] [] stand = sum_zero (λ k n. weight n *ℤ pos 0) graph.nodes (λ k n at. *ℤ-zero (weight n))
    walk_sum [] (s ∷ path) stand = absurd stand
    walk_sum (i ∷ places) [] stand = absurd stand
    walk_sum (i ∷ places) (s ∷ path) stand = omega (arith, ints, leaving i s places (known i s stand.0), walk_sum places path stand.1)

    pub limit_met : (places : List ℕ) (path : List Step) → AllZip At places path → sum_value path left ≤ sum_value path right → MeetsLimit steps places (stated_limit graph left right)
    limit_met places path stand most =
        let bare : (k : ℕ) → 0 + k ≡ k = λ k. omega arith in
        let sum : sum_in (λ f. f.1 *ℤ pos (leaves steps f.0 places)) (filter counts_some (factor_pairs graph left right 0 graph.nodes)) ≡ pos (path_times path left) -ℤ pos (path_times path right) =
        filtered (λ p. pos (leaves steps p places)) (factor_pairs graph left right 0 graph.nodes)
        ∙ pairs_sum (λ p. pos (leaves steps p places)) 0 graph.nodes
        ∙ sum_same (λ k n. weight n *ℤ pos (leaves steps (0 + k) places)) (λ k n. weight n *ℤ pos (leaves steps k places)) graph.nodes (λ k n at. ap (λ j. weight n *ℤ pos (leaves steps j places)) (bare k))
        ∙ walk_sum places path stand in
        omega (arith, ints, sum, most, side_value left path, side_value right path)

-- all that the facts state
module _ (graph : Graph) (steps : List SystemStep) (At : ℕ → Step → Type 0) (known : (i : ℕ) (s : Step) → At i s → IsLeft graph steps i s) (places : List ℕ) (path : List Step) (stand : AllZip At places path) where
  fact_met : (fact : Fact) → ((left right : List Term) → fact ≡ Limit left right → sum_value path left ≤ sum_value path right) → AllByRecursion (MeetsLimit steps places) (fact_limits graph fact)
  fact_met (Limit left right) meets = (limit_met graph steps left right At known places path stand (meets left right refl), tt)
  fact_met (Loop _ _ _) meets = tt
  fact_met (Multibranch _ _) meets = tt
  fact_met (Multicall _ _) meets = tt
  fact_met (Noreturn _) meets = tt
  fact_met (Checksum _ _) meets = tt

  facts_met : (facts : List (ℕ × Fact)) → MeetsLimits (map (λ f. f.1) facts) path → AllByRecursion (MeetsLimit steps places) (facts_limits graph facts)
  facts_met [] meets = tt
  facts_met (f ∷ facts) meets = each_append (MeetsLimit steps places) (fact_limits graph f.1) (facts_limits graph facts)
      (fact_met f.1 (λ left right is. meets left right (subst (Contains (f.1 ∷ map (λ g. g.1) facts)) is (contains_head f.1 (map (λ g. g.1) facts)))))
      (facts_met facts (λ left right among. meets left right (contains_tail f.1 (map (λ g. g.1) facts) (Limit left right) among)))

  pub limits_met : (facts : List (ℕ × Fact)) → MeetsLimits (map (λ f. f.1) facts) path → All (MeetsLimit steps places) (facts_limits graph facts)
  limits_met facts meets = All-from_recursion (MeetsLimit steps places) (facts_limits graph facts) (facts_met facts meets)
