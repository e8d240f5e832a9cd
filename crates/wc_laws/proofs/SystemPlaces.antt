-- The places that the laws of certificates need of a graph and its system.
use Rattle.std.proofs.Common.{ℕ, zero, suc, ◌≡◌, ◌<◌, ◌^◌, List, [], ◌∷◌, slice_index, Option, None, Some, IfSome, length, get_or, refl, sym, subst, arith}
use Rattle.std.specs.Prelude.{All}
use Rattle.std.specs.List.{slice_get}
use Rattle.std.proofs.lemmas.List.Elements.{All-cons}
use Rattle.std.proofs.lemmas.Option.{slice_get-get_or, slice_get_within}
use Rattle.wc_model.specs.declared.elf_image.Image.{Image}
use Rattle.wc_model.specs.declared.flow_facts.Fact.{Fact}
use Rattle.wc_model.specs.declared.flow_system.System.{System}
use Rattle.wc_model.specs.declared.flow_system.SystemLimit.{SystemLimit}
use Rattle.wc_model.specs.declared.flow_system.SystemLoop.{SystemLoop}
use Rattle.wc_model.specs.declared.flow_system.SystemStep.{SystemStep}
use Rattle.wc_model.specs.declared.graphs.Bounds.{Bounds}
use Rattle.wc_model.specs.declared.graphs.Costs.{Costs}
use Rattle.wc_model.specs.declared.graphs.Graph.{Graph}
use Rattle.wc_model.specs.declared.graphs.Head.{Head}
use Rattle.wc_model.specs.declared.graphs.Nest.{Nest}
use Rattle.wc_model.specs.declared.graphs.Step.{Step as NumberedStep}
use Rattle.wc_model.specs.Flow.Bounds.{AreBounds, IsBoundOf, StandsFor}
use Rattle.wc_model.specs.Flow.Systems.{ArePlaces, IsSystemLoop, IsSystemOf, named_by, system_loop, system_loops}
use Rattle.wc_model.specs.Program.Graphs.{IsGraphOf, IsNodeOf, IsStepOf, IsTargetOf}
use Rattle.wc_model.specs.Program.Positions.{Position, start_of}
use Rattle.wc_graph.proofs.ZipLemmas.{zip_length, zip_right}
use Rattle.wc_category.specs.Sound.{HasSources}
use Rattle.wc_dual.specs.Laws.{HasPlaces}
use Rattle.wc_system.specs.Inner.Unlimited.{facts_limits}
use Rattle.wc_system.proofs.SoundLemmas.{all_none, limits_are, loops_are, steps_all}

all_from : {X : Type 0} (P : X → Type 0) (xs : List X) → ((i : ℕ) (x : X) → slice_get xs i ≡ Some x → P x) → All P xs
all_from P xs each k d within = each k (get_or xs k d) (slice_get-get_or xs k d within)

-- the places of a loop's steps, whatever its bound
loop_places : (s : System) (nest : Nest) (x : Head) → x.node < s.nodes → IsSystemLoop s (system_loop nest s.steps x 0)
loop_places s nest x within =
    loops_are s nest (x ∷ []) (0 ∷ []) (All-cons (λ (h : Head). h.node < s.nodes) x [] within (all_none (λ (h : Head). h.node < s.nodes))) (small) zero (system_loop nest s.steps x 0) (omega arith)
  where
    small : (k : ℕ) → slice_index (0 ∷ []) k < 2 ^ 32
    small zero = omega arith
    small (suc k) = omega arith

each_loop : (s : System) (nest : Nest) (P : SystemLoop → Type 0) → ((x : Head) (bound : ℕ) → x.node < s.nodes → P (system_loop nest s.steps x bound)) → (heads : List Head) (bounds : List ℕ)
    → ((i : ℕ) (x : Head) → slice_get heads i ≡ Some x → x.node < s.nodes) → All P (system_loops nest s.steps heads bounds)
each_loop s nest P each [] bounds within = all_none P
each_loop s nest P each (x ∷ heads) [] within = all_none P
each_loop s nest P each (x ∷ heads) (n ∷ bounds) within =
    All-cons P (system_loop nest s.steps x n) (system_loops nest s.steps heads bounds) (each x n (within zero x refl)) (each_loop s nest P each heads bounds (λ i y at. within (suc i) y at))

module _ {image : Image} {facts : List Fact} {entry : ℕ} {graph : Graph} (of : IsGraphOf image facts entry graph) where
  counted : length graph.nodes ≡ length of.positions
  counted = zip_length (IsNodeOf image entry graph.contexts) graph.nodes of.positions of.nodes

  position_within : (k : ℕ) (p : Position) → slice_get of.positions k ≡ Some p → k < length graph.nodes
  position_within k p at = omega (arith, counted, slice_get_within of.positions k p at)

  target_within : (o : Option ℕ) (t : Option Position) → IsTargetOf of.positions o t → IfSome o (λ q. q < length graph.nodes)
  target_within None t is = tt
  target_within (Some k) t is = position_within k is.0 is.1

  pub has_sources : HasSources graph
  has_sources = all_from (λ (z : NumberedStep). z.source < length graph.nodes) graph.steps (λ i z at.
      let s = zip_right (IsStepOf of.positions) graph.steps of.steps i z of.numbered at in
      position_within z.source s.0.source s.2.source_is)

  has_targets : All (λ (z : NumberedStep). IfSome z.target (λ q. q < length graph.nodes)) graph.steps
  has_targets = all_from (λ (z : NumberedStep). IfSome z.target (λ q. q < length graph.nodes)) graph.steps (λ i z at.
      let s = zip_right (IsStepOf of.positions) graph.steps of.steps i z of.numbered at in
      target_within z.target s.0.target s.2.target_is)

  module _ (nest : Nest) (bounds : Bounds) (costs : Costs) (numbered_facts : List (ℕ × Fact)) (s : System) (is : IsSystemOf graph nest bounds costs numbered_facts s) (are : AreBounds graph nest facts bounds.of) where
    head_within : (i : ℕ) (x : Head) → slice_get nest.heads i ≡ Some x → x.node < s.nodes
    head_within i x at =
        let bound = zip_right (λ (h : Head) (n : ℕ). (p : Position) × StandsFor graph h p × IsBoundOf facts p n) nest.heads bounds.of i x are at in
        omega (arith, is.nodes, slice_get_within graph.nodes x.node bound.2.1.0 bound.2.1.1)

    pub has_places : HasPlaces s
    has_places = record {
      start = omega (arith, is.start, is.nodes, position_within graph.start (start_of entry) of.started);
      sources = subst (λ (ts : List SystemStep). All (λ (t : SystemStep). t.source < s.nodes) ts) (sym is.steps)
          (steps_all (λ p o. p < s.nodes) graph.steps costs.of (subst (λ (n : ℕ). All (λ (z : NumberedStep). z.source < n) graph.steps) (sym is.nodes) has_sources));
      targets = subst (λ (ts : List SystemStep). All (λ (t : SystemStep). IfSome t.target (λ q. q < s.nodes)) ts) (sym is.steps)
          (steps_all (λ p o. IfSome o (λ q. q < s.nodes)) graph.steps costs.of (subst (λ (n : ℕ). All (λ (z : NumberedStep). IfSome z.target (λ q. q < n)) graph.steps) (sym is.nodes) has_targets));
      backs = subst (λ (ls : List SystemLoop). All (λ (l : SystemLoop). ArePlaces (length s.steps) l.back) ls) (sym is.loops)
          (each_loop s nest (λ (l : SystemLoop). ArePlaces (length s.steps) l.back) (λ x bound within. (loop_places s nest x within).back) nest.heads bounds.of head_within);
      entries = subst (λ (ls : List SystemLoop). All (λ (l : SystemLoop). ArePlaces (length s.steps) l.entry) ls) (sym is.loops)
          (each_loop s nest (λ (l : SystemLoop). ArePlaces (length s.steps) l.entry) (λ x bound within. (loop_places s nest x within).entry) nest.heads bounds.of head_within);
      limits = subst (λ (ls : List SystemLimit). All (λ (l : SystemLimit). ArePlaces s.nodes (named_by l)) ls) (sym is.limits)
          (subst (λ (n : ℕ). All (λ (l : SystemLimit). ArePlaces n (named_by l)) (facts_limits graph numbered_facts)) (sym is.nodes) (limits_are graph numbered_facts));
    }
