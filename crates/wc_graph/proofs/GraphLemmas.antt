-- What is assembled is the graph of the function.
use Rattle.std.proofs.Common.{ℕ, ◌≡◌, List, Some, length, sym, ap, subst, ◌∙◌, Less}
use Rattle.std.specs.List.{AllZip, slice_get}
use Rattle.std.proofs.lemmas.Option.{same_Some}
use Rattle.wc_model.specs.declared.elf_image.Image.{Image}
use Rattle.wc_model.specs.declared.flow_facts.Fact.{Fact}
use Rattle.wc_model.specs.declared.graphs.Context.{Context}
use Rattle.wc_model.specs.declared.graphs.Graph.{Graph}
use Rattle.wc_model.specs.declared.graphs.Node.{Node}
use Rattle.wc_model.specs.declared.graphs.Step.{Step as NumberedStep}
use Rattle.wc_model.specs.Program.Graphs.{IsGraphOf, IsNodeOf, IsStack, IsStepOf}
use Rattle.wc_model.specs.Program.Positions.{position_cmp, start_of}
use Rattle.wc_graph.specs.declared.numbering.Numbering.{Numbering}
use Rattle.wc_graph.specs.declared.survey.Survey.{Survey}
use Rattle.wc_graph.specs.Inner.Assemblies.{IsAssembled}
use Rattle.wc_graph.specs.Inner.Numberings.{AreRanked}
use Rattle.wc_graph.proofs.Assembled.{pairs_all}
use Rattle.wc_graph.proofs.KeptLemmas.{kept_all}
use Rattle.wc_graph.proofs.NodeLemmas.{contexts, contexts_are, contexts_counted, nodes_are, stacked, stacks, stacks_sorted}
use Rattle.wc_graph.proofs.PositionLemmas.{is_live, live_are, pairs, positions, ps, zip}
use Rattle.wc_graph.proofs.ReachLemmas.{has_get}
use Rattle.wc_graph.proofs.ZipLemmas.{zip_right}

module _ {image : Image} {facts : List Fact} {entry : ℕ} {survey : Survey} {ranking ordering : Numbering} (b : AreRanked image facts entry survey ranking ordering) (graph : Graph) (built : IsAssembled image survey ranking ordering graph) where
  pub started : slice_get (positions b) graph.start ≡ Some (start_of entry)
  started =
      let back = b.ordered.numbered.placed.back 0 graph.start built.start in
      let q = zip_right (λ k p. slice_get (ps b) k ≡ Some p) ordering.order.items (positions b) graph.start 0 (zip b) back.1 in
      q.1 ∙ ap Some (same_Some q.0 (start_of entry) (sym q.2 ∙ b.is.searching.found.first))

  pub nodes_stand : AllZip (IsNodeOf image entry graph.contexts) graph.nodes (positions b)
  nodes_stand = subst (λ (cs : List Context). AllZip (IsNodeOf image entry cs) graph.nodes (positions b)) (sym built.contexts) (subst (λ (ns : List Node). AllZip (IsNodeOf image entry (contexts b)) ns (positions b)) (sym built.nodes) (nodes_are b (λ q has. let at = has_get (positions b) q has in is_live b at.0 q at.1)))

  pub is_graph : IsGraphOf image facts entry graph
  is_graph = record {
    positions = positions b;
    stacks = stacks b;
    steps = (kept_all b).some;
    small = b.is.small;
    sound = b.is.sound;
    live = live_are b;
    sorted = pairs_all (λ p q. position_cmp p q ≡ Less) (positions b) (pairs b);
    nodes = nodes_stand;
    stacked = stacked b;
    stacks_sorted = stacks_sorted b;
    contexts = λ k calls at. subst (λ (cs : List Context). IsStack entry cs k calls) (sym built.contexts) (contexts_are b k calls at);
    contexts_counted = ap length built.contexts ∙ contexts_counted b;
    kept = (kept_all b).kept;
    numbered = subst (λ (zs : List NumberedStep). AllZip (IsStepOf (positions b)) zs (kept_all b).some) (sym built.steps) (kept_all b).stands;
    started = started;
  }
