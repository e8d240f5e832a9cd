-- What is known of the parts of one name: they are of one graph and one nest.
use Rattle.std.proofs.Common.{ℕ, ◌≡◌, ◌<◌, ◌^◌, List, length, Result, Ok, Err, ap, subst, ◌∙◌}
use Rattle.std.proofs.lemmas.List.{length-map}
use Rattle.std.proofs.lemmas.Slice.Zip.{AllZip-long}
use Rattle.wc_base.specs.declared.faults.Fault.{Fault}
use Rattle.wc_model.specs.declared.flow_system.Solution.{Solution}
use Rattle.wc_model.specs.declared.flow_system.System.{System}
use Rattle.wc_model.specs.declared.graphs.Bounds.{Bounds}
use Rattle.wc_model.specs.declared.graphs.Category.{Category}
use Rattle.wc_model.specs.declared.graphs.Costs.{Costs}
use Rattle.wc_model.specs.declared.graphs.Flags.{Flags}
use Rattle.wc_model.specs.declared.graphs.Graph.{Graph}
use Rattle.wc_model.specs.declared.graphs.LineMap.{LineMap}
use Rattle.wc_model.specs.declared.graphs.Nest.{Nest}
use Rattle.wc_model.specs.Cache.Ages.{AreMayFlags, AreMustFlags}
use Rattle.wc_model.specs.Cache.Categories.{AreCategories}
use Rattle.wc_model.specs.Cache.Costs.{upper, upper_costs}
use Rattle.wc_model.specs.Cache.Lines.{line_map}
use Rattle.wc_model.specs.Flow.Bounds.{AreBounds}
use Rattle.wc_model.specs.Flow.Ceiling.{ceiling_of}
use Rattle.wc_model.specs.Flow.Certificates.{SolutionHolds}
use Rattle.wc_model.specs.Flow.Nest.{IsNest}
use Rattle.wc_model.specs.Workspace.Edits.{Setting}
use Rattle.wc_model.specs.Workspace.Feature.{Always, Both, BoundsFeature, CategoryFeature, CostFeature, GraphFeature, LinesFeature, MayFeature, MustFeature, NestFeature, SystemFeature}
use Rattle.wc_model.specs.Workspace.Phases.{BoundsOf, IsSystemResult, IsTooBig, NestOf, SolutionOf, SystemOf, fine, limited, stated, went_on, whole}
use Rattle.wc_laws.proofs.JoinedLemmas.{after_at, both_are, both_one, both_parts, value_once}
use Rattle.wc_laws.proofs.OneFeatureLemmas.{one_category, one_graph, one_lines, one_pair}
use Rattle.wc_nestsolve.specs.Given.{IsSystemIn}

pub solution_holds : (system : System) (solution : Solution) → SolutionOf system (Ok solution) → SolutionHolds system solution
solution_holds system solution (whole _ none holds is) = holds
solution_holds system solution (limited _ found some is holds) = holds

system_result : (inputs : Setting) (graph : Graph) (nest : Nest) (bounds : Bounds) (costs : Costs) (system : System) → SystemOf inputs graph nest bounds costs (Ok system) → IsSystemResult inputs graph nest bounds costs system
system_result inputs graph nest bounds costs system (fine _ is) = is

module _ (inputs : Setting) (name : List ℕ) (graph : Graph) (is_graph : GraphFeature inputs name (Ok graph)) where
  pub nest_at : (nest : Nest) → NestFeature inputs name (Ok nest) → IsNest graph nest
  nest_at nest of = after_at (GraphFeature inputs name) NestOf (one_graph inputs name) graph is_graph (Ok nest) of

  pub lines_at : (map : LineMap) → LinesFeature inputs name (Ok map) → map ≡ line_map graph inputs.hardware.cache
  lines_at map of = after_at (GraphFeature inputs name) (λ g. Always (λ m. m ≡ line_map g inputs.hardware.cache)) (one_graph inputs name) graph is_graph (Ok map) of

  module _ (map : LineMap) (is_map : LinesFeature inputs name (Ok map)) where
    abbrev IsLined : Result (Graph × LineMap) Fault → Type 0
    IsLined = Both (GraphFeature inputs name) (LinesFeature inputs name)

    lined : IsLined (Ok (graph, map))
    lined = both_are (GraphFeature inputs name) (LinesFeature inputs name) graph map is_graph is_map

    pub must_at : (flags : Flags) → MustFeature inputs name (Ok flags) → AreMustFlags graph inputs.hardware.cache flags
    must_at flags of = after_at IsLined (λ given. Always (AreMustFlags given.0 inputs.hardware.cache)) (both_one _ _ (one_graph inputs name) (one_lines inputs name)) (graph, map) lined (Ok flags) of

    pub may_at : (flags : Flags) → MayFeature inputs name (Ok flags) → AreMayFlags graph inputs.hardware.cache flags
    may_at flags of = after_at IsLined (λ given. Always (AreMayFlags given.0 inputs.hardware.cache)) (both_one _ _ (one_graph inputs name) (one_lines inputs name)) (graph, map) lined (Ok flags) of

  pub categories_at : (categories : List Category) → CategoryFeature inputs name (Ok categories) → AreCategories graph inputs.hardware.cache categories
  categories_at categories (went_on given _ all of) =
      let lines = (both_parts (Both (GraphFeature inputs name) (LinesFeature inputs name)) (MustFeature inputs name) given.0 (both_parts (Both (Both (GraphFeature inputs name) (LinesFeature inputs name)) (MustFeature inputs name)) (MayFeature inputs name) given all).0).0 in
      subst (λ (g : Graph). AreCategories g inputs.hardware.cache categories)
      (value_once (one_graph inputs name) given.0.0.0 graph (both_parts (GraphFeature inputs name) (LinesFeature inputs name) given.0.0 lines).0 is_graph) of

  pub costs_counted : (costs : Costs) → CostFeature inputs name (Ok costs) → length costs.of ≡ length graph.steps
  costs_counted costs (went_on given _ both of) =
      let parts = both_parts (GraphFeature inputs name) (CategoryFeature inputs name) given both in
      let same : given.0 ≡ graph = value_once (one_graph inputs name) given.0 graph parts.0 is_graph in
      ap length (subst (λ (g : Graph). costs.of ≡ upper_costs g given.1 inputs.hardware.cycles) same of) ∙ length-map graph.steps (upper graph given.1 inputs.hardware.cycles)

  module _ (nest : Nest) (is_nest : NestFeature inputs name (Ok nest)) where
    abbrev IsPair : Result (Graph × Nest) Fault → Type 0
    IsPair = Both (GraphFeature inputs name) (NestFeature inputs name)

    pair : IsPair (Ok (graph, nest))
    pair = both_are (GraphFeature inputs name) (NestFeature inputs name) graph nest is_graph is_nest

    pub bounds_counted : (bounds : Bounds) → BoundsFeature inputs name (Ok bounds) → length bounds.of ≡ length nest.heads
    bounds_counted bounds of =
        let are : AreBounds graph nest (stated inputs) bounds.of = after_at IsPair (λ given. BoundsOf inputs given.0 given.1) (one_pair inputs name) (graph, nest) pair (Ok bounds) of in
        AllZip-long _ nest.heads bounds.of are

    -- the parts of a system, whose graph and nest are these
    record IsMade (system : System) : Type 0 where
      pub bounds : Bounds
      pub costs : Costs
      pub is_bounds : BoundsFeature inputs name (Ok bounds)
      pub is_costs : CostFeature inputs name (Ok costs)
      pub result : IsSystemResult inputs graph nest bounds costs system

    made : (system : System) → SystemFeature inputs name (Ok system) → IsMade system
    made system (went_on given _ all of) =
        let parts = both_parts (Both IsPair (BoundsFeature inputs name)) (CostFeature inputs name) given all in
        let bounded = both_parts IsPair (BoundsFeature inputs name) given.0 parts.0 in
        let same : given.0.0 ≡ (graph, nest) = value_once (one_pair inputs name) given.0.0 (graph, nest) bounded.0 pair in
        record {
          bounds = given.0.1;
          costs = given.1;
          is_bounds = bounded.1;
          is_costs = parts.1;
          result = system_result inputs graph nest given.0.1 given.1 system (subst (λ (p : Graph × Nest). SystemOf inputs p.0 p.1 given.0.1 given.1 (Ok system)) same of);
        }

    module _ (system : System) (of : SystemFeature inputs name (Ok system)) where
      pub system_in : IsSystemIn graph nest system
      system_in =
          let m = made system of in
          record {
            bounds = m.bounds;
            costs = m.costs;
            facts = inputs.facts;
            bounds_counted = bounds_counted m.bounds m.is_bounds;
            costs_counted = costs_counted m.costs m.is_costs;
            system_is = m.result.system_is;
          }

      pub system_below : ceiling_of nest system < 2 ^ 100
      system_below = (made system of).result.below

      pub system_fits : IsTooBig system → ⊥
      system_fits = (made system of).result.fits_in
