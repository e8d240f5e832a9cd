-- The whole system from its parts.
use Rattle.std.proofs.Common.{◌≡◌, ℕ, ◌+◌, ◌-◌, ◌*◌, ◌^◌, ◌<◌, ◌≤◌, min, List, [], ◌∷◌, length, map, Option, Some, None, Result, Ok, Err, Bool, true, false, refl, sym, ap, ap₂, subst, ◌∙◌, arith}
use Rattle.std.proofs.lemmas.Bool.Decides.{nat_tests}
use Rattle.std.specs.Prelude.{◌↔◌, All, IfOk, IfSome, IsTrue, nat_lt}
use Rattle.wc_base.specs.declared.faults.Fault.{Fault}
use Rattle.wc_base.specs.declared.faults.Fault.TheVariants.{NumberLimit}
use Rattle.wc_base.specs.declared.troubles.Trouble.{Trouble}
use Rattle.wc_base.specs.declared.troubles.Trouble.TheVariants.{Fault as Refused, Memory}
use Rattle.wc_model.specs.declared.flow_facts.Fact.{Fact}
use Rattle.wc_model.specs.declared.flow_system.System.{System}
use Rattle.wc_model.specs.declared.flow_system.SystemLimit.{SystemLimit}
use Rattle.wc_model.specs.declared.graphs.Bounds.{Bounds}
use Rattle.wc_model.specs.declared.graphs.Costs.{Costs}
use Rattle.wc_model.specs.declared.graphs.Graph.{Graph}
use Rattle.wc_model.specs.declared.graphs.Nest.{Nest}
use Rattle.wc_model.specs.Flow.Ceiling.{ceiling_of, ceiling_by}
use Rattle.wc_model.specs.Flow.Systems.{ArePlaces, IsNestShape, IsSystem, IsSystemLoop, IsSystemOf, named_by}
use Rattle.wc_model.specs.Program.Graphs.{IsGraph}
use Rattle.wc_model.specs.Workspace.Edits.{Setting}
use Rattle.wc_model.specs.Workspace.Phases.{IsTooBig, SystemOf, costly, big, fine}
use Rattle.wc_system.specs.Answers.{Answers}
use Rattle.wc_system.specs.Inner.Capped.{AreSmall, capped}
use Rattle.wc_system.specs.Inner.Counted.{cells_with}
use Rattle.wc_system.specs.Inner.Unlimited.{IsLimited, facts_limits, with_limits}
use Rattle.wc_system.proofs.SoundLemmas.{all_none, bounds_kept, limits_are, loops_are, steps_all, steps_counted}

module _ (graph : Graph) (nest : Nest) (bounds : Bounds) (costs : Costs) (s : System) (g : IsGraph graph) (shape : IsNestShape graph nest)
    (bounded : length bounds.of ≡ length nest.heads) (costed : length costs.of ≡ length graph.steps) (is : IsSystemOf graph nest bounds costs [] s) where
  pub unlimited_sound : AreSmall bounds.of → IsSystem s
  unlimited_sound small = record {
    start = omega (arith, is.start, is.nodes, g.starts);
    sources = subst (λ xs. All (λ t. t.source < s.nodes) xs) (sym is.steps)
        (steps_all (λ p t. p < s.nodes) graph.steps costs.of (subst (λ n. All (λ x. x.source < n) graph.steps) (sym is.nodes) g.sources));
    targets = subst (λ xs. All (λ t. IfSome t.target (λ q. q < s.nodes)) xs) (sym is.steps)
        (steps_all (λ p t. IfSome t (λ q. q < s.nodes)) graph.steps costs.of (subst (λ n. All (λ x. IfSome x.target (λ q. q < n)) graph.steps) (sym is.nodes) g.targets));
    loops = subst (λ xs. All (IsSystemLoop s) xs) (sym is.loops)
        (loops_are s nest nest.heads bounds.of (subst (λ n. All (λ h. h.node < n) nest.heads) (sym is.nodes) shape.heads) small);
    limits = subst (λ xs. All (λ l. ArePlaces s.nodes (named_by l)) xs) (sym is.limits) (all_none (λ l. ArePlaces s.nodes (named_by l)));
  }

  pub steps_few : length s.steps < 2 ^ 32
  steps_few = omega (arith, ap length is.steps, steps_counted graph.steps costs.of costed, g.few_steps)

  pub ceiling_as : ceiling_by nest bounds.of (length nest.inside) s.steps ≡ ceiling_of nest s
  ceiling_as =
      ap₂ (λ bs n. ceiling_by nest bs n s.steps) (sym (ap (map (λ l. l.bound)) is.loops ∙ bounds_kept nest s.steps nest.heads bounds.of bounded)) (shape.inside_counted ∙ sym is.nodes)

  pub sources_inside : All (λ t. t.source < length nest.inside) s.steps
  sources_inside = subst (λ xs. All (λ t. t.source < length nest.inside) xs) (sym is.steps)
      (steps_all (λ p t. p < length nest.inside) graph.steps costs.of (subst (λ n. All (λ x. x.source < n) graph.steps) (sym shape.inside_counted) g.sources))

-- the limits are added
limited_sound : (graph : Graph) (facts : List (ℕ × Fact)) (s : System) → s.nodes ≡ length graph.nodes → IsSystem s → IsSystem (with_limits s (facts_limits graph facts))
limited_sound graph facts s nodes is = record {
  start = is.start;
  sources = is.sources;
  targets = is.targets;
  loops = λ k d within. let l = is.loops k d within in record { head = l.head; bound = l.bound; back = l.back; entry = l.entry };
  limits = subst (λ n. All (λ l. ArePlaces n (named_by l)) (facts_limits graph facts)) (sym nodes) (limits_are graph facts);
}

pub sound_of : (graph : Graph) (facts : List (ℕ × Fact)) (s : System) (r : Result System Trouble) → s.nodes ≡ length graph.nodes → IsSystem s → Answers (IsLimited graph facts s) r → IfOk r IsSystem
sound_of graph facts s (Ok limited) nodes is answer = subst IsSystem (sym answer.0) (limited_sound graph facts s nodes is)
sound_of graph facts s (Err trouble) nodes is answer = tt

module _ (inputs : Setting) (graph : Graph) (nest : Nest) (bounds : Bounds) (costs : Costs) (facts : List (ℕ × Fact)) (s : System)
    (same : inputs.facts ≡ facts) (is : IsSystemOf graph nest bounds costs [] s) where
  with_facts : IsSystemOf graph nest bounds costs inputs.facts (with_limits s (facts_limits graph facts))
  with_facts = record { nodes = is.nodes; steps = is.steps; start = is.start; loops = is.loops; limits = ap (facts_limits graph) (sym same) }

  pub costly_of : capped (ceiling_of nest s) ≡ 2 ^ 100 → SystemOf inputs graph nest bounds costs (Err NumberLimit)
  costly_of high = costly (with_limits s (facts_limits graph facts)) with_facts (omega (arith, high))

  pub answer_of : (r : Result System Trouble) → (capped (ceiling_of nest s) ≡ 2 ^ 100 → ⊥) → Answers (IsLimited graph facts s) r → Answers (SystemOf inputs graph nest bounds costs) r
  answer_of (Ok limited) low answer =
      subst (λ o. SystemOf inputs graph nest bounds costs (Ok o)) (sym answer.0)
      (fine (with_limits s (facts_limits graph facts)) (record { system_is = with_facts; below = below (ceiling_of nest s) low; fits_in = answer.1 }))
    where
      below : (n : ℕ) → (min n (2 ^ 100) ≡ 2 ^ 100 → ⊥) → n < 2 ^ 100
      below n apart = grind (arith, nat_tests)
  answer_of (Err (Refused fault)) low answer =
      subst (λ f. SystemOf inputs graph nest bounds costs (Err f)) (sym answer.0) (big (with_limits s (facts_limits graph facts)) with_facts (below (ceiling_of nest s) low) answer.1)
    where
      below : (n : ℕ) → (min n (2 ^ 100) ≡ 2 ^ 100 → ⊥) → n < 2 ^ 100
      below n apart = grind (arith, nat_tests)
  answer_of (Err (Memory _)) low answer = tt

-- the cells of the system with its limits
pub too_big_is : (s : System) (limits cells : ℕ) (ls : List SystemLimit) → length ls ≡ limits → (limits ≡ 0 → ⊥) → cells ≡ min (cells_with s limits) (2 ^ 128 - 1)
    → (250000 < cells) ↔ IsTooBig (with_limits s ls)
too_big_is s limits cells ls counted some is = (
  (λ more. ((λ none. some (sym counted ∙ ap length none)), subst (λ n. 250000 < n) (ap (cells_with s) (sym counted)) (omega (arith, is, more)))),
  (λ big'. let many : 250000 < cells_with s limits = subst (λ n. 250000 < cells_with s n) counted big'.1 in omega (arith, is, many)),
)

pub none_too_big : (s : System) (ls : List SystemLimit) → length ls ≡ 0 → IsTooBig (with_limits s ls) → ⊥
none_too_big s [] counted big' = big'.0 refl
none_too_big s (l ∷ ls) counted big' = absurd (omega (arith, counted))
