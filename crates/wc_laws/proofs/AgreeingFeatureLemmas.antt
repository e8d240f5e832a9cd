-- The features of each kind under inputs that agree on parts: each phase is carried by the parts that it reads.
use Rattle.std.proofs.Common.{◌≡◌, ℕ, List, [], ◌∷◌, ◌++◌, Option, Ok, Err, refl, sym, ap, subst, ◌∙◌}
use Rattle.std.specs.List.{filter, flat_map}
use Rattle.wc_model.specs.declared.elf_image.Image.{Image}
use Rattle.wc_model.specs.declared.flow_facts.Fact.{Fact as FlowFact}
use Rattle.wc_model.specs.declared.flow_facts.Fact.TheVariants.{Loop, Multibranch, Multicall, Noreturn, Checksum, Limit}
use Rattle.wc_model.specs.declared.flow_system.System.{System}
use Rattle.wc_model.specs.declared.graphs.Bounds.{Bounds}
use Rattle.wc_model.specs.declared.graphs.Costs.{Costs}
use Rattle.wc_model.specs.declared.graphs.Graph.{Graph}
use Rattle.wc_model.specs.declared.graphs.LineMap.{LineMap}
use Rattle.wc_model.specs.declared.graphs.Nest.{Nest}
use Rattle.wc_model.specs.declared.kinds.Part.TheVariants.{Steer, Loops, Limits, Cache as CachePart, Cycles as CyclesPart}
use Rattle.wc_model.specs.declared.machine.Cache.{Cache}
use Rattle.wc_model.specs.declared.machine.Cycles.{Cycles}
use Rattle.wc_model.specs.Cache.Ages.{AreMayFlags, AreMustFlags}
use Rattle.wc_model.specs.Cache.Categories.{AreCategories}
use Rattle.wc_model.specs.Cache.Costs.{upper_costs}
use Rattle.wc_model.specs.Cache.Lines.{line_map}
use Rattle.wc_model.specs.Flow.Systems.{IsSystemOf, fact_limits}
use Rattle.wc_model.specs.Program.Graphs.{IsGraphFault, IsGraphOf}
use Rattle.wc_model.specs.Program.Words.{find_of}
use Rattle.wc_model.specs.Workspace.Edits.{AgreeOn, Setting, belongs}
use Rattle.wc_model.specs.Workspace.Feature.{Always, BoundFeature, BoundsFeature, CategoryFeature, CostFeature, GraphFeature, LinesFeature, MayFeature, MustFeature, NestFeature, SolutionFeature, SystemFeature}
use Rattle.wc_model.specs.Workspace.Phases.{BoundsOf, FunctionOf, GraphAt, SystemOf, big, costly, fine, stated}
use Rattle.wc_model.proofs.SteeringLemmas.{agreeing_code}
use Rattle.wc_laws.proofs.AgreeingBoundsLemmas.{bounds_alike, bounds_fault_alike, carried}
use Rattle.wc_laws.proofs.AgreeingGraphLemmas.{graph_alike, graph_fault_alike}
use Rattle.wc_laws.proofs.RelationLemmas.{Gives, after_gives, always_gives, both_gives}

-- limits are those of the facts that state them
limits_kept : (graph : Graph) (fs : List (ℕ × FlowFact)) → flat_map (λ f. fact_limits graph f.1) fs ≡ flat_map (λ f. fact_limits graph f.1) (filter (λ f. belongs Limits f.1) fs)
limits_kept graph [] = refl
limits_kept graph ((n, Loop at bound within) ∷ fs) = limits_kept graph fs
limits_kept graph ((n, Multibranch at to) ∷ fs) = limits_kept graph fs
limits_kept graph ((n, Multicall at to) ∷ fs) = limits_kept graph fs
limits_kept graph ((n, Noreturn at) ∷ fs) = limits_kept graph fs
limits_kept graph ((n, Checksum name value) ∷ fs) = limits_kept graph fs
limits_kept graph ((n, Limit left right) ∷ fs) = ap (λ l. fact_limits graph (Limit left right) ++ l) (limits_kept graph fs)

module _ (a b : Setting) (name : List ℕ) (image : a.image ≡ b.image) (steer : AgreeOn a b Steer) where
  graph_at : (entry : ℕ) → Gives (GraphAt a entry) (GraphAt b entry)
  graph_at entry (Ok graph) is =
      subst (λ (i : Image). IsGraphOf i (stated b) entry graph) image (graph_alike a.image (stated a) (stated b) entry (agreeing_code a b steer entry) graph is)
  graph_at entry (Err fault) is =
      subst (λ (i : Image). IsGraphFault i (stated b) entry fault) image (graph_fault_alike a.image (stated a) (stated b) entry (agreeing_code a b steer entry) fault is)

  function_of : Gives (FunctionOf a name) (FunctionOf b name)
  function_of r found = ap (λ (i : Image). find_of i name) (sym image) ∙ found

  pub graphs : Gives (GraphFeature a name) (GraphFeature b name)
  graphs = after_gives _ _ _ _ function_of graph_at

  pub nests : Gives (NestFeature a name) (NestFeature b name)
  nests = after_gives _ _ _ _ graphs (λ graph r of. of)

  module _ (loops : AgreeOn a b Loops) where
    pub bounds_of : (graph : Graph) (nest : Nest) → Gives (BoundsOf a graph nest) (BoundsOf b graph nest)
    bounds_of graph nest (Ok bounds) is =
        bounds_alike (stated a) (stated b) (carried Loops a.facts b.facts loops) (carried Loops b.facts a.facts (sym loops)) graph nest bounds.of is
    bounds_of graph nest (Err fault) is =
        bounds_fault_alike (stated a) (stated b) (carried Loops a.facts b.facts loops) (carried Loops b.facts a.facts (sym loops)) graph nest fault is

    pub bounds : Gives (BoundsFeature a name) (BoundsFeature b name)
    bounds = after_gives _ _ _ _ (both_gives _ _ _ _ graphs nests) (λ given. bounds_of given.0 given.1)

  module _ (cache : AgreeOn a b CachePart) where
    -- a phase that reads the cache, and refuses nothing
    by_cache : {A : Type 0} (Is : Option Cache → A → Type 0) → Gives (Always (Is a.hardware.cache)) (Always (Is b.hardware.cache))
    by_cache {A} Is = always_gives _ _ (λ (v : A) is. subst (λ (c : Option Cache). Is c v) cache is)

    pub lines : Gives (LinesFeature a name) (LinesFeature b name)
    lines = after_gives _ _ _ _ graphs (λ graph. by_cache (λ c (map : LineMap). map ≡ line_map graph c))

    pub musts : Gives (MustFeature a name) (MustFeature b name)
    musts = after_gives _ _ _ _ (both_gives _ _ _ _ graphs lines) (λ given. by_cache (AreMustFlags given.0))

    pub mays : Gives (MayFeature a name) (MayFeature b name)
    mays = after_gives _ _ _ _ (both_gives _ _ _ _ graphs lines) (λ given. by_cache (AreMayFlags given.0))

    pub categories : Gives (CategoryFeature a name) (CategoryFeature b name)
    categories =
        after_gives _ _ _ _ (both_gives _ _ _ _ (both_gives _ _ _ _ (both_gives _ _ _ _ graphs lines) musts) mays)
        (λ given. by_cache (AreCategories given.0.0.0))

    module _ (cycles : AgreeOn a b CyclesPart) where
      pub costs : Gives (CostFeature a name) (CostFeature b name)
      costs =
          after_gives _ _ _ _ (both_gives _ _ _ _ graphs categories)
          (λ given. always_gives _ _ (λ (v : Costs) is. is ∙ ap (λ (c : Cycles). upper_costs given.0 given.1 c) cycles))

      module _ (loops : AgreeOn a b Loops) (limits : AgreeOn a b Limits) where
        system_is : (graph : Graph) (nest : Nest) (n : Bounds) (c : Costs) (system : System) → IsSystemOf graph nest n c a.facts system → IsSystemOf graph nest n c b.facts system
        system_is graph nest n c system is =
            record {
              nodes = is.nodes;
              steps = is.steps;
              start = is.start;
              loops = is.loops;
              limits = is.limits ∙ limits_kept graph a.facts ∙ ap (λ (l : List (ℕ × FlowFact)). flat_map (λ f. fact_limits graph f.1) l) limits ∙ sym (limits_kept graph b.facts);
            }

        pub system_of : (graph : Graph) (nest : Nest) (n : Bounds) (c : Costs) → Gives (SystemOf a graph nest n c) (SystemOf b graph nest n c)
        system_of graph nest n c r (costly system is above) = costly system (system_is graph nest n c system is) above
        system_of graph nest n c r (big system is below wide) = big system (system_is graph nest n c system is) below wide
        system_of graph nest n c r (fine system is) = fine system (record { system_is = system_is graph nest n c system is.system_is; below = is.below; fits_in = is.fits_in })

        pub systems : Gives (SystemFeature a name) (SystemFeature b name)
        systems =
            after_gives _ _ _ _ (both_gives _ _ _ _ (both_gives _ _ _ _ (both_gives _ _ _ _ graphs nests) (bounds loops)) costs)
            (λ given. system_of given.0.0.0 given.0.0.1 given.0.1 given.1)

        pub solutions : Gives (SolutionFeature a name) (SolutionFeature b name)
        solutions = after_gives _ _ _ _ (both_gives _ _ _ _ (both_gives _ _ _ _ graphs nests) systems) (λ given r of. of)

        pub outcomes : Gives (BoundFeature a name) (BoundFeature b name)
        outcomes = after_gives _ _ _ _ (both_gives _ _ _ _ systems solutions) (λ given r of. of)
