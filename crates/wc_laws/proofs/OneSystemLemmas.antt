-- The flow system is one.
use Rattle.std.proofs.Common.{ℕ, ◌≡◌, ◌<◌, ◌≤◌, ◌^◌, List, Result, Ok, refl, sym, ap, subst, ◌∙◌, arith}
use Rattle.wc_base.specs.declared.faults.Fault.{Fault}
use Rattle.wc_model.specs.declared.flow_facts.Fact.{Fact}
use Rattle.wc_model.specs.declared.flow_system.System.{System}
use Rattle.wc_model.specs.declared.flow_system.SystemStep.{SystemStep}
use Rattle.wc_model.specs.declared.graphs.Bounds.{Bounds}
use Rattle.wc_model.specs.declared.graphs.Costs.{Costs}
use Rattle.wc_model.specs.declared.graphs.Graph.{Graph}
use Rattle.wc_model.specs.declared.graphs.Nest.{Nest}
use Rattle.wc_model.specs.Flow.Ceiling.{ceiling_of}
use Rattle.wc_model.specs.Flow.Systems.{IsSystemOf, system_loops}
use Rattle.wc_model.specs.Workspace.Edits.{Setting}
use Rattle.wc_model.specs.Workspace.Phases.{IsSystemResult, IsTooBig, SystemOf, costly, big, fine}
use Rattle.wc_laws.proofs.OnePhaseLemmas.{IsOne}

system_once : (graph : Graph) (nest : Nest) (bounds : Bounds) (costs : Costs) (facts : List (ℕ × Fact)) (s t : System) → IsSystemOf graph nest bounds costs facts s → IsSystemOf graph nest bounds costs facts t → s ≡ t
system_once graph nest bounds costs facts s t is also =
    let nodes : s.nodes ≡ t.nodes = is.nodes ∙ sym also.nodes in
    let steps : s.steps ≡ t.steps = is.steps ∙ sym also.steps in
    let start : s.start ≡ t.start = is.start ∙ sym also.start in
    let loops : s.loops ≡ t.loops = is.loops ∙ ap (λ (xs : List SystemStep). system_loops nest xs nest.heads bounds.of) steps ∙ sym also.loops in
    let limits : s.limits ≡ t.limits = is.limits ∙ sym also.limits in
    λ n. record { nodes = nodes n; steps = steps n; start = start n; loops = loops n; limits = limits n }

above_not_below : (n most : ℕ) → most ≤ n → n < most → ⊥
above_not_below n most high low = omega (arith, high, low)

module _ (inputs : Setting) (graph : Graph) (nest : Nest) (bounds : Bounds) (costs : Costs) where
  abbrev Of : System → Type 0
  Of = IsSystemOf graph nest bounds costs inputs.facts

  same : (s t : System) → Of s → Of t → s ≡ t
  same = system_once graph nest bounds costs inputs.facts

  not_costly : (s t : System) → Of s → Of t → 2 ^ 100 ≤ ceiling_of nest s → ceiling_of nest t < 2 ^ 100 → ⊥
  not_costly s t is also high low = above_not_below (ceiling_of nest t) (2 ^ 100) (subst (λ (x : System). 2 ^ 100 ≤ ceiling_of nest x) (same s t is also) high) low

  not_big : (s t : System) → Of s → IsSystemResult inputs graph nest bounds costs t → IsTooBig s → ⊥
  not_big s t is result too_big = result.fits_in (subst IsTooBig (same s t is result.system_is) too_big)

  pub system_one : IsOne (SystemOf inputs graph nest bounds costs)
  system_one r s is also = by is also
    where
      by : {r s : Result System Fault} → SystemOf inputs graph nest bounds costs r → SystemOf inputs graph nest bounds costs s → r ≡ s
      by (costly a is high) (costly b also more) = refl
      by (costly a is high) (big b also low too_big) = absurd (not_costly a b is also high low)
      by (costly a is high) (fine b result) = absurd (not_costly a b is result.system_is high result.below)
      by (big a is low too_big) (costly b also high) = absurd (not_costly b a also is high low)
      by (big a is low too_big) (big b also less more) = refl
      by (big a is low too_big) (fine b result) = absurd (not_big a b is result too_big)
      by (fine a result) (costly b also high) = absurd (not_costly b a also result.system_is high result.below)
      by (fine a result) (big b also low too_big) = absurd (not_big b a also result too_big)
      by (fine a result) (fine b other) = ap (λ (x : System). Ok x) (same a b result.system_is other.system_is)

  pub system_of : (s : System) → SystemOf inputs graph nest bounds costs (Ok s) → Of s
  system_of s (fine t result) = result.system_is
