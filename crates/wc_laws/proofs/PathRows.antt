-- A path that meets the facts meets all rows of the system.
use Rattle.std.proofs.Common.{ℕ, ◌≡◌, List, map, length, sym, subst}
use Rattle.std.specs.Prelude.{All}
use Rattle.std.specs.List.{AllZip}
use Rattle.wc_model.specs.declared.elf_image.Image.{Image}
use Rattle.wc_model.specs.declared.flow_facts.Fact.{Fact}
use Rattle.wc_model.specs.declared.flow_system.System.{System}
use Rattle.wc_model.specs.declared.graphs.Bounds.{Bounds}
use Rattle.wc_model.specs.declared.graphs.Category.{Category}
use Rattle.wc_model.specs.declared.graphs.Costs.{Costs}
use Rattle.wc_model.specs.declared.graphs.Graph.{Graph}
use Rattle.wc_model.specs.declared.graphs.Nest.{Nest}
use Rattle.wc_model.specs.declared.machine.Cycles.{Cycles}
use Rattle.wc_model.specs.Cache.Costs.{upper, upper_costs}
use Rattle.wc_model.specs.Flow.Bounds.{AreBounds, MeetsFacts}
use Rattle.wc_model.specs.Flow.Nest.{IsNest}
use Rattle.wc_model.specs.Flow.SystemWalks.{MeetsLimit, MeetsLoop, MeetsRows}
use Rattle.wc_model.specs.Flow.Systems.{IsSystemOf, calls_from, node_position, system_steps}
use Rattle.wc_model.specs.Program.Graphs.{IsGraphOf, IsNodeOf}
use Rattle.wc_model.specs.Program.Positions.{start_of}
use Rattle.wc_model.specs.Program.Steps.{Step, LeadsBy}
use Rattle.wc_graph.proofs.ZipLemmas.{zip_left}
use Rattle.wc_laws.proofs.ContextCalls.{calls_are, stack_within}
use Rattle.wc_laws.proofs.GraphPlaces.{Stands, steps}
use Rattle.wc_laws.proofs.LimitRows.{IsLeft, limits_met}
use Rattle.wc_laws.proofs.LoopRows.{loops_met}
use Rattle.wc_laws.proofs.PathCosts.{costed, system_step}

module _ {image : Image} {entry : ℕ} {graph : Graph} (numbered_facts : List (ℕ × Fact)) (of : IsGraphOf image (map (λ f. f.1) numbered_facts) entry graph)
    (categories : List Category) (c : Cycles) (system : System) (are : system.steps ≡ system_steps graph.steps (upper_costs graph categories c)) where
  node_left : (i : ℕ) (s : Step) → Stands of i s → IsLeft graph system.steps i s
  node_left i s stands =
      let n = zip_left (IsNodeOf image entry graph.contexts) graph.nodes of.positions stands.numbered.source s.source of.nodes stands.is.source_is in
      let calls : calls_from graph.contexts (length graph.contexts) n.0.context ≡ s.source.calls =
      calls_are graph.contexts entry of.stacks of.stacks_sorted of.contexts_counted of.contexts s.source.calls (length graph.contexts) n.0.context (stack_within graph.contexts entry s.source.calls n.0.context n.2.stack) n.2.stack in
      let place : node_position graph n.0 ≡ s.source = λ x. record { calls = calls x; pc = n.2.address x } in
      record { numbered = costed (upper graph categories c) stands.numbered; there = system_step of categories c system are i s stands; node = n.0; source = n.1; position = place }

  pub rows_met : (nest : Nest) (bounds : Bounds) (costs : Costs) → IsNest graph nest → AreBounds graph nest (map (λ f. f.1) numbered_facts) bounds.of → IsSystemOf graph nest bounds costs numbered_facts system
      → (places : List ℕ) (path : List Step) → AllZip (Stands of) places path → MeetsFacts (LeadsBy (steps of)) (start_of entry) (map (λ f. f.1) numbered_facts) path → MeetsRows system places
  rows_met nest bounds costs nest_is bounded is places path stand meets = record {
    loops = subst (All (MeetsLoop system.start places)) (sym is.loops)
        (loops_met of categories c system are nest nest_is places path stand meets.loops is.start nest.heads bounds.of (λ i x at. let level = nest_is.places i x at in (level.0, level.1)) bounded);
    limits = subst (All (MeetsLimit system.steps places)) (sym is.limits) (limits_met graph system.steps (Stands of) node_left places path stand numbered_facts meets.limits);
  }
