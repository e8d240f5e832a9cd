-- The system of a graph and its nest has what the passes need.
use Rattle.std.proofs.Common.{ℕ, zero, suc, ◌≡◌, ◌+◌, ◌<◌, ◌≤◌, ◌^◌, ◌||◌, ◌&&◌, Bool, true, false, not, List, [], ◌∷◌, Option, None, Some, length, get_or, if◌then◌else◌, refl, sym, ap, ap₂, subst, ◌∙◌, arith}
use Rattle.std.specs.Prelude.{IfSome}
use Rattle.std.specs.List.{slice_get}
use Rattle.std.proofs.lemmas.Option.{none-some, same_Some, slice_get_within, slice_get-get_or}
use Rattle.wc_model.specs.declared.flow_system.System.{System}
use Rattle.wc_model.specs.declared.flow_system.SystemLoop.{SystemLoop}
use Rattle.wc_model.specs.declared.flow_system.SystemStep.{SystemStep}
use Rattle.wc_model.specs.declared.graphs.Graph.{Graph}
use Rattle.wc_model.specs.declared.graphs.Head.{Head}
use Rattle.wc_model.specs.declared.graphs.Nest.{Nest}
use Rattle.wc_model.specs.declared.graphs.Step.{Step}
use Rattle.wc_model.specs.Flow.Ceiling.{ceiling_of}
use Rattle.wc_model.specs.Flow.Ends.{system_ends}
use Rattle.wc_model.specs.Flow.Nest.{IsNest}
use Rattle.wc_model.specs.Flow.Places.{is_listed, places_from}
use Rattle.wc_model.specs.Flow.Systems.{IsNestShape, IsSystem, is_back, is_entry, is_marked, leads_to, system_loop, system_loops, system_steps}
use Rattle.wc_model.specs.Flow.Walks.{Joins}
use Rattle.wc_model.specs.Program.Graphs.{IsGraph, LeadsIn}
use Rattle.wc_model.specs.Program.Reaching.{Ends, Reaches, exits, onward}
use Rattle.wc_model.proofs.Places.{contains_from_get, get_from_contains}
use Rattle.wc_nest.proofs.FlagLemmas.{not_both}
use Rattle.wc_nest.proofs.ListLemmas.{pairs_at, pairs_from}
use Rattle.wc_nest.proofs.RelationLemmas.{leads_map, reaches_map}
use Rattle.wc_system.proofs.SoundLemmas.{steps_counted}
use Rattle.wc_nestsolve.specs.Given.{IsSystemIn}
use Rattle.wc_nestsolve.specs.Inner.Nested.{IsLoop, IsNested, IsStep, lies}
use Rattle.wc_nestsolve.specs.Inner.Solvable.{IsSolvable, LeadsAhead}
use Rattle.wc_nestsolve.proofs.BackLemmas.{GoesAhead, back_lies, lies_back, none_ahead}
use Rattle.wc_nestsolve.proofs.NestedLemmas.{lies_entered, lies_inside, lies_larger, lies_outer, lies_started, one_place}
use Rattle.wc_nestsolve.proofs.ShapeLemmas.{nest_shape}
use Rattle.wc_nestsolve.proofs.WeightLemmas.{test_apart, test_same}

-- The places of a list that pass a test.
listed_later : {X : Type 0} (test : ℕ → X → Bool) (xs : List X) (first n : ℕ) → n < first → is_listed n (places_from first test xs) ≡ false
listed_later test [] first n less = refl
listed_later {X} test (x ∷ xs) first n less = by (test first x) (listed_later test xs (first + 1) n (omega arith))
  where
    by : (b : Bool) → is_listed n (places_from (first + 1) test xs) ≡ false → is_listed n (if b then first ∷ places_from (first + 1) test xs else places_from (first + 1) test xs) ≡ false
    by true rest = ap (λ c. c || is_listed n (places_from (first + 1) test xs)) (test_apart n first (λ same. absurd (omega arith))) ∙ rest
    by false rest = rest

listed_from : {X : Type 0} (test : ℕ → X → Bool) (xs : List X) (first i n : ℕ) (x : X) → slice_get xs i ≡ Some x → first + i ≡ n → is_listed n (places_from first test xs) ≡ test n x
listed_from test [] first i n x at is = absurd (none-some x at)
listed_from {X} test (y ∷ xs) first zero n x at is = by (test first y) refl
  where
    here : first ≡ n
    here = omega (arith, is)

    value : test first y ≡ test n x
    value = ap₂ test here (same_Some y x at)

    by : (b : Bool) → test first y ≡ b → is_listed n (if b then first ∷ places_from (first + 1) test xs else places_from (first + 1) test xs) ≡ test n x
    by true yes' = ap (λ c. c || is_listed n (places_from (first + 1) test xs)) (test_same n first (sym here)) ∙ sym yes' ∙ value
    by false no' = listed_later test xs (first + 1) n (omega (arith, here)) ∙ sym no' ∙ value
listed_from {X} test (y ∷ xs) first (suc i) n x at is = by (test first y) (listed_from test xs (first + 1) i n x at (omega (arith, is)))
  where
    by : (b : Bool) → is_listed n (places_from (first + 1) test xs) ≡ test n x → is_listed n (if b then first ∷ places_from (first + 1) test xs else places_from (first + 1) test xs) ≡ test n x
    by true rest = ap (λ c. c || is_listed n (places_from (first + 1) test xs)) (test_apart n first (λ same. absurd (omega (arith, is)))) ∙ rest
    by false rest = rest

-- The steps and the loops of a system.
step_of : (gs : List Step) (cs : List ℕ) (i : ℕ) (t : SystemStep) → slice_get (system_steps gs cs) i ≡ Some t → (g : Step) × (slice_get gs i ≡ Some g) × (g.source ≡ t.source) × (g.target ≡ t.target)
step_of [] cs i t at = absurd (none-some t at)
step_of (g ∷ gs) [] i t at = absurd (none-some t at)
step_of (g ∷ gs) (c ∷ cs) zero t at = let same = same_Some (record { source = g.source; target = g.target; cost = c }) t at in (g, refl, ap (λ x. x.source) same, ap (λ x. x.target) same)
step_of (g ∷ gs) (c ∷ cs) (suc i) t at = step_of gs cs i t at

step_for : (gs : List Step) (cs : List ℕ) (i : ℕ) (g : Step) → length cs ≡ length gs → slice_get gs i ≡ Some g → (t : SystemStep) × (slice_get (system_steps gs cs) i ≡ Some t) × (t.source ≡ g.source) × (t.target ≡ g.target)
step_for [] cs i g counted at = absurd (none-some g at)
step_for (h ∷ gs) [] i g counted at = absurd (omega arith)
step_for (h ∷ gs) (c ∷ cs) zero g counted at =
    let same = same_Some h g at in (record { source = h.source; target = h.target; cost = c }, refl, ap (λ x. x.source) same, ap (λ x. x.target) same)
step_for (h ∷ gs) (c ∷ cs) (suc i) g counted at = step_for gs cs i g (omega arith) at

loop_of : (nest : Nest) (steps : List SystemStep) (hs : List Head) (ns : List ℕ) (k : ℕ) (l : SystemLoop) → slice_get (system_loops nest steps hs ns) k ≡ Some l → (h : Head) × (n : ℕ) × (slice_get hs k ≡ Some h) × (system_loop nest steps h n ≡ l)
loop_of nest steps [] ns k l at = absurd (none-some l at)
loop_of nest steps (h ∷ hs) [] k l at = absurd (none-some l at)
loop_of nest steps (h ∷ hs) (n ∷ ns) zero l at = (h, n, refl, same_Some (system_loop nest steps h n) l at)
loop_of nest steps (h ∷ hs) (n ∷ ns) (suc k) l at = loop_of nest steps hs ns k l at

loops_length : (nest : Nest) (steps : List SystemStep) (hs : List Head) (ns : List ℕ) → length ns ≡ length hs → length (system_loops nest steps hs ns) ≡ length hs
loops_length nest steps [] ns counted = refl
loops_length nest steps (h ∷ hs) [] counted = absurd (omega arith)
loops_length nest steps (h ∷ hs) (n ∷ ns) counted = ap suc (loops_length nest steps hs ns (omega arith))

module _ (graph : Graph) (nest : Nest) (s : System) (is_graph : IsGraph graph) (of : IsNest graph nest) (given : IsSystemIn graph nest s) where
  graph_step : (i : ℕ) (t : SystemStep) → IsStep s nest i t → (g : Step) × (slice_get graph.steps i ≡ Some g) × (g.source ≡ t.source) × (g.target ≡ t.target)
  graph_step i t at = step_of graph.steps given.costs.of i t (ap (λ xs. slice_get xs i) (sym given.system_is.steps) ∙ at)

  own_step : (i : ℕ) (g : Step) → slice_get graph.steps i ≡ Some g → (t : SystemStep) × IsStep s nest i t × (t.source ≡ g.source) × (t.target ≡ g.target)
  own_step i g at = let t = step_for graph.steps given.costs.of i g given.costs_counted at in (t.0, ap (λ xs. slice_get xs i) given.system_is.steps ∙ t.1, t.2, t.3)

  nest_head : (k : ℕ) (l : SystemLoop) → IsLoop s nest k l → (h : Head) × (n : ℕ) × (slice_get nest.heads k ≡ Some h) × (system_loop nest s.steps h n ≡ l)
  nest_head k l at = loop_of nest s.steps nest.heads given.bounds.of k l (ap (λ xs. slice_get xs k) (sym given.system_is.loops) ∙ at)

  own_loop : (k : ℕ) (h : Head) → slice_get nest.heads k ≡ Some h → (l : SystemLoop) × IsLoop s nest k l × (l.head ≡ h.node)
  own_loop k h at =
      let counted = ap length given.system_is.loops ∙ loops_length nest s.steps nest.heads given.bounds.of given.bounds_counted in
      let none : SystemLoop = system_loop nest s.steps h 0 in
      let l = get_or s.loops k none in
      let here : IsLoop s nest k l = slice_get-get_or s.loops k none (omega (arith, counted, slice_get_within nest.heads k h at)) in
      let head = nest_head k l here in
      (l, here, sym (ap (λ o. o.head) head.3) ∙ ap (λ x. x.node) (same_Some head.0 h (sym head.2 ∙ at)))

  steps_length : length s.steps ≡ length graph.steps
  steps_length = ap length given.system_is.steps ∙ steps_counted graph.steps given.costs.of given.costs_counted

  head_is : (k : ℕ) (l : SystemLoop) → IsLoop s nest k l → (h : Head) × (slice_get nest.heads k ≡ Some h) × (h.node ≡ l.head)
  head_is k l at = let head = nest_head k l at in (head.0, head.2, ap (λ o. o.head) head.3)

  is_nested : IsNested s nest
  is_nested = record {
    back = λ i k t l at here. let head = nest_head k l here in
        ap (λ o. is_listed i o.back) (sym head.3) ∙ listed_from (is_back nest head.0.node) s.steps 0 i i t at (omega arith) ∙ ap (λ p. leads_to t.target p && is_marked nest i) (ap (λ o. o.head) head.3);
    entry = λ i k t l at here. let head = nest_head k l here in
        ap (λ o. is_listed i o.entry) (sym head.3) ∙ listed_from (is_entry nest head.0.node) s.steps 0 i i t at (omega arith) ∙ ap (λ p. leads_to t.target p && not (is_marked nest i)) (ap (λ o. o.head) head.3);
    owned = owned;
    marked = marked;
    unmarked = unmarked;
    heads = λ k m l o at there same. let h = head_is k l at in let j = head_is m o there in one_place graph is_graph nest of k m h.0 j.0 h.1 j.1 (h.2 ∙ same ∙ sym j.2);
    inside = λ k l at. let h = head_is k l at in ap (lies nest k) (sym h.2) ∙ lies_inside graph is_graph nest of k h.0 h.1;
    entered = λ i k q t l at here to is_in is_out.
        let g = graph_step i t at in
        let h = head_is k l here in
        lies_entered graph is_graph nest of k h.0 g.0 q h.1 (contains_from_get graph.steps i g.0 g.1) (g.3 ∙ to) is_in (ap (lies nest k) g.2 ∙ is_out) ∙ h.2;
    started = λ k l at is.
        let h = head_is k l at in
        given.system_is.start ∙ lies_started graph is_graph nest of k h.0 h.1 (ap (lies nest k) (sym given.system_is.start) ∙ is) ∙ h.2;
    outer = λ k m l o at there is. let h = head_is k l at in let j = head_is m o there in lies_outer graph is_graph nest of k m h.0 j.0 h.1 j.1 (ap (lies nest k) j.2 ∙ is);
    larger = λ k m p l o at there is inside. let h = head_is k l at in let j = head_is m o there in lies_larger graph is_graph nest of k m p h.0 j.0 h.1 j.1 (ap (lies nest k) j.2 ∙ is) inside;
  }
    where
      owned : (i : ℕ) (t : SystemStep) → IsStep s nest i t → is_marked nest i ≡ true → (k : ℕ) × (l : SystemLoop) × IsLoop s nest k l × (t.target ≡ Some l.head)
      owned i t at is =
          let g = graph_step i t at in
          let back = lies_back graph is_graph nest of i g.0 g.1 is in
          let own = own_loop back.0 back.1 back.2 in
          (back.0, own.0, own.1, sym g.3 ∙ back.3 ∙ ap Some (sym own.2))

      marked : (i k : ℕ) (t : SystemStep) (l : SystemLoop) → IsStep s nest i t → IsLoop s nest k l → t.target ≡ Some l.head → is_marked nest i ≡ true → lies nest k t.source ≡ true
      marked i k t l at here to is =
          let g = graph_step i t at in
          let back = lies_back graph is_graph nest of i g.0 g.1 is in
          let h = head_is k l here in
          let one : back.0 ≡ k = one_place graph is_graph nest of back.0 k back.1 h.0 back.2 h.1 (same_Some back.1.node h.0.node (sym back.3 ∙ g.3 ∙ to ∙ ap Some (sym h.2))) in
          ap₂ (λ j p. lies nest j p) (sym one) (sym g.2) ∙ back.4

      unmarked : (i k : ℕ) (t : SystemStep) (l : SystemLoop) → IsStep s nest i t → IsLoop s nest k l → t.target ≡ Some l.head → is_marked nest i ≡ false → lies nest k t.source ≡ false
      unmarked i k t l at here to is = by (lies nest k t.source) refl
        where
          by : (b : Bool) → lies nest k t.source ≡ b → lies nest k t.source ≡ false
          by false out = out
          by true inside =
              let g = graph_step i t at in
              let h = head_is k l here in
              absurd (not_both (back_lies graph is_graph nest of i k g.0 h.0 g.1 h.1 (g.3 ∙ to ∙ ap Some (sym h.2)) (ap (lies nest k) g.2 ∙ inside)) is)

  joined : (p : ℕ) (o : Option ℕ) → LeadsIn graph.steps p o → Joins system_ends s.steps p o
  joined p o (g, among, from, to) =
      let place = get_from_contains graph.steps g among in
      let t = own_step place.0 g place.1 in
      (t.0, contains_from_get s.steps place.0 t.0 t.1, t.2 ∙ from, t.3 ∙ to)

  ends_on : (p : ℕ) → Ends (LeadsIn graph.steps) p → Ends (Joins system_ends s.steps) p
  ends_on p (exits step) = exits (joined p None step)
  ends_on p (onward r step rest) = onward r (joined p (Some r) step) (ends_on r rest)

  goes_ahead : (p q : ℕ) → LeadsAhead s nest p (Some q) → GoesAhead graph nest p (Some q)
  goes_ahead p q (i, t, at, ahead, from, to) = let g = graph_step i t at in (i, g.0, g.1, ahead, g.2 ∙ from, g.3 ∙ to)

  -- the premise of all passes
  pub solvable_from : IsSystem s → ceiling_of nest s < 2 ^ 100 → IsSolvable nest s
  solvable_from sound below =
      let shape : IsNestShape graph nest = nest_shape graph is_graph nest of in
      let nodes = given.system_is.nodes in
      let counted = ap length given.system_is.loops ∙ loops_length nest s.steps nest.heads given.bounds.of given.bounds_counted in
      record {
        sound = sound;
        few = omega (arith, nodes, is_graph.few);
        few_steps = omega (arith, steps_length, is_graph.few_steps);
        sorted = pairs_from (λ t r. t.source ≤ r.source) s.steps (λ i j t r less at_t at_r.
            let a = graph_step i t at_t in
            let b = graph_step j r at_r in
            omega (arith, pairs_at (λ g h. g.source ≤ h.source) graph.steps i j a.0 b.0 is_graph.sorted less a.1 b.1, a.2, b.2));
        marks = shape.back_counted ∙ sym steps_length;
        inside_counted = shape.inside_counted ∙ sym nodes;
        inside_known = λ p k at. inside_low p (Some k) at;
        parents = shape.parents;
        loops_counted = counted;
        loops_few = omega (arith, counted, nodes, shape.few);
        nested = is_nested;
        acyclic = λ p led. none_ahead graph is_graph nest of p (leads_map (LeadsAhead s nest) (GoesAhead graph nest) goes_ahead p p led);
        reached = λ p known. subst (λ q. Reaches (Joins system_ends s.steps) q p) (sym given.system_is.start)
            (reaches_map (LeadsIn graph.steps) (Joins system_ends s.steps) (λ a b. joined a (Some b)) graph.start (is_graph.live p (omega (arith, nodes, known))).0);
        ending = λ p known. ends_on p (is_graph.live p (omega (arith, nodes, known))).1;
        below = below;
      }
    where
      inside_low : (p : ℕ) (o : Option ℕ) → slice_get nest.inside p ≡ Some o → IfSome o (λ k. k < length nest.heads)
      inside_low p o at =
          let shape : IsNestShape graph nest = nest_shape graph is_graph nest of in
          subst (λ x. IfSome x (λ k. k < length nest.heads)) (same_Some (get_or nest.inside p o) o (sym (slice_get-get_or nest.inside p o (slice_get_within nest.inside p o at)) ∙ at))
          (shape.inside p o (slice_get_within nest.inside p o at))
