-- Every bound of the whole chain is safe.
use Rattle.std.proofs.Common.{ℕ, ◌≡◌, ◌≤◌, pos, ◌*ℤ◌, ◌≤ℤ◌, List, None, Some, Result, Ok, refl, sym, ap, subst, ◌∙◌, arith}
use Rattle.std.specs.List.{AllZip}
use Rattle.std.proofs.lemmas.Int.{ints}
use Rattle.std.proofs.lemmas.Option.{same_Some}
use Rattle.wc_base.specs.declared.faults.Fault.{Fault}
use Rattle.wc_base.proofs.Products.{one_times}
use Rattle.wc_model.specs.declared.flow_system.System.{System}
use Rattle.wc_model.specs.declared.graphs.Bounds.{Bounds}
use Rattle.wc_model.specs.declared.graphs.Costs.{Costs}
use Rattle.wc_model.specs.declared.graphs.Graph.{Graph}
use Rattle.wc_model.specs.declared.graphs.Nest.{Nest}
use Rattle.wc_model.specs.declared.graphs.Step.{Step as NumberedStep}
use Rattle.wc_model.specs.Cache.Costs.{AreCosts, upper_costs, upper_cycles}
use Rattle.wc_model.specs.Cache.Lru.{Held, IsAllowed}
use Rattle.wc_model.specs.Cache.Timing.{cycles_from, path_cycles}
use Rattle.wc_model.specs.Flow.Bounds.{AreBounds, MeetsFacts}
use Rattle.wc_model.specs.Flow.Certificates.{IsBound, dual_value, scaled}
use Rattle.wc_model.specs.Flow.Nest.{IsNest}
use Rattle.wc_model.specs.Flow.SystemWalks.{IsPlaceWalk, visits}
use Rattle.wc_model.specs.Flow.Systems.{IsSystemOf, system_steps}
use Rattle.wc_model.specs.Program.Graphs.{IsGraphOf}
use Rattle.wc_model.specs.Program.Positions.{start_of}
use Rattle.wc_model.specs.Program.Reaching.{Reaches, here}
use Rattle.wc_model.specs.Program.Steps.{Step, LeadsBy, steps_of}
use Rattle.wc_model.specs.Workspace.Chain.{IsSafeAt}
use Rattle.wc_model.specs.Workspace.Edits.{Setting}
use Rattle.wc_model.specs.Workspace.Phases.{After, went_on, SystemOf, fine, stated}
use Rattle.wc_category.proofs.CategoryLemmas.{upper_costs_bound}
use Rattle.wc_category.proofs.FlagLemmas.{categories_are_justified}
use Rattle.wc_dual.proofs.DualityLemmas.{certificates_bound}
use Rattle.wc_dual.proofs.WalkLemmas.{walks_are_feasible}
use Rattle.wc_laws.specs.Safe.{ChainIsSafe}
use Rattle.wc_laws.proofs.FloorLemmas.{floor_most, scaled_value}
use Rattle.wc_laws.proofs.GraphPlaces.{Stands}
use Rattle.wc_laws.proofs.PathCosts.{path_value, place_walk}
use Rattle.wc_laws.proofs.PathRows.{rows_met}
use Rattle.wc_laws.proofs.PathWalks.{GoesOn, graph_walk, numbers, path_goes_on, path_timed, places_of}
use Rattle.wc_laws.proofs.SystemPlaces.{has_places, has_sources}

-- What the phases gave for the function at `entry`.
pub record IsAnalysed (inputs : Setting) (entry : ℕ) (graph : Graph) (nest : Nest) (bounds : Bounds) (costs : Costs) (system : System) : Type 0 where
  pub graph_is : IsGraphOf inputs.image (stated inputs) entry graph
  pub nest_is : IsNest graph nest
  pub bounds_are : AreBounds graph nest (stated inputs) bounds.of
  pub costs_are : AreCosts graph inputs.hardware costs
  pub system_is : IsSystemOf graph nest bounds costs inputs.facts system

module _ (inputs : Setting) (entry : ℕ) (graph : Graph) (nest : Nest) (bounds : Bounds) (costs : Costs) (system : System) (is : IsAnalysed inputs entry graph nest bounds costs system) where
  costed_steps : system.steps ≡ system_steps graph.steps (upper_costs graph is.costs_are.0 inputs.hardware.cycles)
  costed_steps = is.system_is.steps ∙ ap (system_steps graph.steps) is.costs_are.2

  -- a path by the places of its steps
  module _ (path : List Step) (goes : GoesOn is.graph_is (Some (start_of entry)) path) (places : List ℕ) (stand : AllZip (Stands is.graph_is) places path) where
    most_cycles : (held : Held) → IsAllowed inputs.hardware.cache held → path_cycles inputs.image inputs.hardware held path ≤ upper_cycles graph is.costs_are.0 inputs.hardware.cycles (numbers is.graph_is places path stand)
    most_cycles held allowed =
        let walk : List NumberedStep = numbers is.graph_is places path stand in
        let timed = ap (cycles_from inputs.hardware.cache inputs.hardware.cycles held) (path_timed is.graph_is inputs.hardware.cycles places path stand) in
        let most = upper_costs_bound graph inputs.hardware.cache inputs.hardware.cycles is.costs_are.0 held walk (has_sources is.graph_is) inputs.hardware.cycles.hit_is_least
        (categories_are_justified graph inputs.hardware.cache is.costs_are.0 is.costs_are.1) allowed
        (graph_walk is.graph_is (Some graph.start) (Some (start_of entry)) places path stand (start_of entry, is.graph_is.started, refl) goes) in
        subst (λ (n : ℕ). n ≤ upper_cycles graph is.costs_are.0 inputs.hardware.cycles walk) (sym timed) most

    value_most : MeetsFacts (LeadsBy (steps_of inputs.image (stated inputs) entry)) (start_of entry) (stated inputs) path → (bound : ℕ) → IsBound system bound
        → upper_cycles graph is.costs_are.0 inputs.hardware.cycles (numbers is.graph_is places path stand) ≤ bound
    value_most meets bound found =
        let value : ℕ = upper_cycles graph is.costs_are.0 inputs.hardware.cycles (numbers is.graph_is places path stand) in
        let fits = has_places is.graph_is nest bounds costs inputs.facts system is.system_is is.bounds_are in
        let walk = subst (λ (n : ℕ). IsPlaceWalk system.steps (Some n) places None) (sym is.system_is.start) (place_walk is.graph_is is.costs_are.0 inputs.hardware.cycles system costed_steps (Some graph.start) (Some (start_of entry)) places path stand (start_of entry, is.graph_is.started, refl) goes) in
        let feasible = walks_are_feasible system places fits walk (rows_met inputs.facts is.graph_is is.costs_are.0 inputs.hardware.cycles system costed_steps nest bounds costs is.nest_is is.bounds_are is.system_is places path stand meets) in
        let priced = certificates_bound system (scaled found.optimum.scale) found.optimum.prices (pos 1) (visits places) fits found.optimum.priced feasible.0 in
        let same = feasible.1 (scaled found.optimum.scale) ∙ scaled_value found.optimum.scale system.steps places ∙ ap (λ z. z *ℤ found.optimum.scale) (path_value is.graph_is is.costs_are.0 inputs.hardware.cycles system costed_steps places path stand) in
        let most : (pos value *ℤ found.optimum.scale) ≤ℤ dual_value system found.optimum.prices = omega (arith, ints, priced, same, one_times (dual_value system found.optimum.prices)) in
        floor_most bound value found.num found.den found.optimum.scale (dual_value system found.optimum.prices) found.optimum.feasible.whole found.optimum.whole most found.optimum.dual found.most

  pub bound_is_safe : (bound : ℕ) → IsBound system bound → IsSafeAt inputs entry bound
  bound_is_safe bound found path held leads meets allowed =
      let goes : GoesOn is.graph_is (Some (start_of entry)) path = path_goes_on is.graph_is (start_of entry) path leads in
      let placed = places_of is.graph_is (Some (start_of entry)) path goes (λ p same. subst (Reaches (LeadsBy (steps_of inputs.image (stated inputs) entry)) (start_of entry)) (same_Some (start_of entry) p same) here) in
      let cycles : path_cycles inputs.image inputs.hardware held path ≤ upper_cycles graph is.costs_are.0 inputs.hardware.cycles (numbers is.graph_is placed.0 path placed.1) = most_cycles path goes placed.0 placed.1 held allowed in
      let value : upper_cycles graph is.costs_are.0 inputs.hardware.cycles (numbers is.graph_is placed.0 path placed.1) ≤ bound = value_most path goes placed.0 placed.1 meets bound found in
      omega (arith, cycles, value)

-- Phase by phase.
after_ok : {A B : Type 0} {First : Result A Fault → Type 0} {Second : A → Result B Fault → Type 0} {b : B} → After First Second (Ok b) → (a : A) × First (Ok a) × Second a (Ok b)
after_ok (went_on a _ first second) = (a, first, second)

system_ok : (inputs : Setting) (graph : Graph) (nest : Nest) (bounds : Bounds) (costs : Costs) (system : System) → SystemOf inputs graph nest bounds costs (Ok system) → IsSystemOf graph nest bounds costs inputs.facts system
system_ok inputs graph nest bounds costs system (fine _ is) = is.system_is

same_Ok : (a b : ℕ) → ◌≡◌ {A = Result ℕ Fault} (Ok a) (Ok b) → a ≡ b
same_Ok a b is = cc

pub chain_is_safe : ChainIsSafe
chain_is_safe inputs name bound chain entry found =
    let graph = after_ok chain in
    let nest = after_ok graph.2 in
    let bounds = after_ok nest.2 in
    let costs = after_ok bounds.2 in
    let system = after_ok costs.2 in
    let solution = after_ok system.2 in
    let function = after_ok graph.1 in
    let at : function.0 ≡ entry = same_Ok function.0 entry (sym function.1 ∙ found) in
    bound_is_safe inputs entry graph.0 nest.0 bounds.0 costs.0 system.0
    (record {
      graph_is = subst (λ (n : ℕ). IsGraphOf inputs.image (stated inputs) n graph.0) at function.2;
      nest_is = nest.1;
      bounds_are = bounds.1;
      costs_are = costs.1;
      system_is = system_ok inputs graph.0 nest.0 bounds.0 costs.0 system.0 system.1;
    })
    bound solution.2
