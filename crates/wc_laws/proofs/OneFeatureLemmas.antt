-- Each kind but that of solutions has at most one feature; of solutions there are many for one system.
use Rattle.std.proofs.Common.{ℕ, ◌≡◌, Bool, List, length, sym, ap₂, ◌∙◌}
use Rattle.wc_model.specs.declared.graphs.Category.{Category}
use Rattle.wc_model.specs.declared.graphs.Costs.{Costs}
use Rattle.wc_model.specs.declared.graphs.Flags.{Flags}
use Rattle.wc_model.specs.declared.graphs.Graph.{Graph}
use Rattle.wc_model.specs.declared.graphs.LineMap.{LineMap}
use Rattle.wc_model.specs.Cache.Ages.{AreMayFlags, AreMustFlags}
use Rattle.wc_model.specs.Cache.Categories.{AreCategories, categories_of}
use Rattle.wc_model.specs.Cache.Costs.{upper_costs}
use Rattle.wc_model.specs.Cache.Lines.{line_map}
use Rattle.wc_model.specs.Workspace.Edits.{Setting}
use Rattle.wc_model.specs.Workspace.Feature.{Always, Both, BoundsFeature, CategoryFeature, CostFeature, GraphFeature, LinesFeature, MayFeature, MustFeature, NestFeature, SystemFeature}
use Rattle.wc_model.specs.Workspace.Phases.{BoundsOf, NestOf, SystemOf}
use Rattle.wc_laws.proofs.OneBoundLemmas.{bounds_one}
use Rattle.wc_laws.proofs.OneCostLemmas.{may_flags_once, must_flags_once}
use Rattle.wc_laws.proofs.OneGraphFaultLemmas.{graph_one}
use Rattle.wc_laws.proofs.OneNestFaultLemmas.{nest_one}
use Rattle.wc_laws.proofs.OnePhaseLemmas.{IsOne, after_by}
use Rattle.wc_laws.proofs.OneSystemLemmas.{system_one}
use Rattle.wc_laws.proofs.JoinedLemmas.{always_one, both_one}

same_flags : (f g : Flags) → f.yes ≡ g.yes → f ≡ g
same_flags f g same = λ n. record { yes = same n }

same_costs : (c d : Costs) → c.of ≡ d.of → c ≡ d
same_costs c d same = λ n. record { of = same n }

module _ (inputs : Setting) (name : List ℕ) where
  pub one_graph : IsOne (GraphFeature inputs name)
  one_graph = graph_one inputs name

  pub one_nest : IsOne (NestFeature inputs name)
  one_nest = after_by (GraphFeature inputs name) NestOf one_graph (λ graph is. nest_one graph)

  pub one_pair : IsOne (Both (GraphFeature inputs name) (NestFeature inputs name))
  one_pair = both_one _ _ one_graph one_nest

  pub one_bounds : IsOne (BoundsFeature inputs name)
  one_bounds = after_by _ (λ given. BoundsOf inputs given.0 given.1) one_pair (λ given is. bounds_one inputs given.0 given.1)

  pub one_lines : IsOne (LinesFeature inputs name)
  one_lines = after_by _ (λ graph. Always (λ map. map ≡ line_map graph inputs.hardware.cache)) one_graph
      (λ graph is. always_one _ (λ (a b : LineMap) is also. is ∙ sym also))

  one_lined : IsOne (Both (GraphFeature inputs name) (LinesFeature inputs name))
  one_lined = both_one _ _ one_graph one_lines

  pub one_must : IsOne (MustFeature inputs name)
  one_must = after_by _ (λ given. Always (AreMustFlags given.0 inputs.hardware.cache)) one_lined
      (λ given is. always_one _ (λ (f g : Flags) is also. same_flags f g (must_flags_once given.0 inputs.hardware.cache f g is also)))

  pub one_may : IsOne (MayFeature inputs name)
  one_may = after_by _ (λ given. Always (AreMayFlags given.0 inputs.hardware.cache)) one_lined
      (λ given is. always_one _ (λ (f g : Flags) is also. same_flags f g (may_flags_once given.0 inputs.hardware.cache f g is also)))

  categories_once : (graph : Graph) (a b : List Category) → AreCategories graph inputs.hardware.cache a → AreCategories graph inputs.hardware.cache b → a ≡ b
  categories_once graph a b (must, may, is_must, is_may, of) (must_too, may_too, also_must, also_may, of_too) =
      of ∙ ap₂ (λ (xs ys : List Bool). categories_of (length graph.nodes) xs ys)
      (must_flags_once graph inputs.hardware.cache must must_too is_must also_must)
      (may_flags_once graph inputs.hardware.cache may may_too is_may also_may)
      ∙ sym of_too

  pub one_category : IsOne (CategoryFeature inputs name)
  one_category = after_by _ (λ given. Always (AreCategories given.0.0.0 inputs.hardware.cache)) (both_one _ _ (both_one _ _ one_lined one_must) one_may)
      (λ given is. always_one _ (categories_once given.0.0.0))

  pub one_cost : IsOne (CostFeature inputs name)
  one_cost = after_by _ (λ given. Always (λ costs. costs.of ≡ upper_costs given.0 given.1 inputs.hardware.cycles)) (both_one _ _ one_graph one_category)
      (λ given is. always_one _ (λ (c d : Costs) is also. same_costs c d (is ∙ sym also)))

  pub one_system : IsOne (SystemFeature inputs name)
  one_system = after_by _ (λ given. SystemOf inputs given.0.0.0 given.0.0.1 given.0.1 given.1) (both_one _ _ (both_one _ _ one_pair one_bounds) one_cost)
      (λ given is. system_one inputs given.0.0.0 given.0.0.1 given.0.1 given.1)
