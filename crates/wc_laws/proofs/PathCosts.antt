-- The places of a path's steps are a walk of the system, whose value is the sum of the upper costs.
use Rattle.std.proofs.Common.{ℕ, zero, suc, ◌≡◌, pos, List, [], ◌∷◌, map, Option, None, Some, refl, ap, ◌∙◌, arith}
use Rattle.std.specs.List.{AllZip, slice_get}
use Rattle.std.proofs.lemmas.Int.{ints}
use Rattle.std.proofs.lemmas.Option.{none-some, same_Some}
use Rattle.wc_model.specs.declared.elf_image.Image.{Image}
use Rattle.wc_model.specs.declared.flow_facts.Fact.{Fact}
use Rattle.wc_model.specs.declared.flow_system.System.{System}
use Rattle.wc_model.specs.declared.flow_system.SystemStep.{SystemStep}
use Rattle.wc_model.specs.declared.graphs.Category.{Category}
use Rattle.wc_model.specs.declared.graphs.Graph.{Graph}
use Rattle.wc_model.specs.declared.graphs.Step.{Step as NumberedStep}
use Rattle.wc_model.specs.declared.machine.Cycles.{Cycles}
use Rattle.wc_model.specs.Cache.Costs.{upper, upper_costs, upper_cycles}
use Rattle.wc_model.specs.Flow.Counts.{cycles}
use Rattle.wc_model.specs.Flow.SystemWalks.{IsPlaceWalk, cost_at, walk_value}
use Rattle.wc_model.specs.Flow.Systems.{system_steps}
use Rattle.wc_model.specs.Program.Graphs.{IsGraphOf, IsTargetOf}
use Rattle.wc_model.specs.Program.Positions.{Position}
use Rattle.wc_model.specs.Program.Steps.{Step}
use Rattle.wc_graph.proofs.ReachLemmas.{target_none}
use Rattle.wc_laws.proofs.GraphPlaces.{Stands}
use Rattle.wc_laws.proofs.PathWalks.{GoesOn, left_at, numbers}

-- a step of the graph at its cost
abbrev pub costed : (NumberedStep → ℕ) → NumberedStep → SystemStep
costed cost z = record { source = z.source; target = z.target; cost = cost z }

step_costed : (cost : NumberedStep → ℕ) (steps : List NumberedStep) (i : ℕ) (z : NumberedStep) → slice_get steps i ≡ Some z → slice_get (system_steps steps (map cost steps)) i ≡ Some (costed cost z)
step_costed cost [] i z at = absurd (none-some z at)
step_costed cost (s ∷ steps) zero z at = ap (λ (x : NumberedStep). Some (costed cost x)) (same_Some s z at)
step_costed cost (s ∷ steps) (suc i) z at = step_costed cost steps i z at

module _ {image : Image} {facts : List Fact} {entry : ℕ} {graph : Graph} (of : IsGraphOf image facts entry graph)
    (categories : List Category) (c : Cycles) (system : System) (are : system.steps ≡ system_steps graph.steps (upper_costs graph categories c)) where
  pub system_step : (i : ℕ) (s : Step) (stands : Stands of i s) → slice_get system.steps i ≡ Some (costed (upper graph categories c) stands.numbered)
  system_step i s stands = ap (λ (ts : List SystemStep). slice_get ts i) are ∙ step_costed (upper graph categories c) graph.steps i stands.numbered stands.there

  pub place_walk : (o : Option ℕ) (at : Option Position) (places : List ℕ) (path : List Step) → AllZip (Stands of) places path → IsTargetOf of.positions o at → GoesOn of at path
      → IsPlaceWalk system.steps o places None
  place_walk o at [] [] stand target is = target_none of.positions o at is target
  place_walk o at [] (s ∷ path) stand target is = absurd stand
  place_walk o at (i ∷ places) [] stand target is = absurd stand
  place_walk o at (i ∷ places) (s ∷ path) stand target (among, from, rest) = (
    costed (upper graph categories c) stand.0.numbered,
    system_step i s stand.0,
    left_at of o at i s stand.0 target from,
    place_walk stand.0.numbered.target s.target places path stand.1 stand.0.is.target_is rest,
  )

  pub path_value : (places : List ℕ) (path : List Step) (stand : AllZip (Stands of) places path) → walk_value cycles system.steps places ≡ pos (upper_cycles graph categories c (numbers of places path stand))
  path_value [] [] stand = refl
  path_value [] (s ∷ path) stand = absurd stand
  path_value (i ∷ places) [] stand = absurd stand
  path_value (i ∷ places) (s ∷ path) stand =
      let first : cost_at cycles (slice_get system.steps i) ≡ pos (upper graph categories c stand.0.numbered) = ap (cost_at cycles) (system_step i s stand.0) in
      omega (arith, ints, first, path_value places path stand.1)
