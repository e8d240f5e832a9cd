-- What the numbers of the graph keep, for the phases after it.
use Rattle.std.proofs.Common.{ℕ, ◌≡◌, ◌+◌, ◌<◌, ◌≤◌, inl, inr, ⊎_elim, Bool, List, [], ◌∷◌, ◌++◌, reverse, Option, None, Some, IfSome, option_and_then, length, get_or, refl, sym, ap, subst, ◌∙◌, arith}
use Rattle.std.specs.List.{All, AllZip, flat_map, slice_get}
use Rattle.std.proofs.lemmas.Bool.{cases_lt}
use Rattle.std.proofs.lemmas.List.{reverse-append, reverse-reverse}
use Rattle.std.proofs.lemmas.Option.{none-some, same_Some, get_or_from_slice_get, slice_get_within, slice_get-get_or}
use Rattle.wc_model.proofs.Places.{get_within}
use Rattle.wc_model.specs.declared.elf_image.Image.{Image}
use Rattle.wc_model.specs.declared.flow_facts.Fact.{Fact}
use Rattle.wc_model.specs.declared.graphs.Context.{Context}
use Rattle.wc_model.specs.declared.graphs.Graph.{Graph}
use Rattle.wc_model.specs.declared.graphs.Node.{Node}
use Rattle.wc_model.specs.declared.graphs.Step.{Step as NumberedStep}
use Rattle.wc_model.specs.Program.Graphs.{IsGraph, IsNodeOf, IsStack, IsStepOf, IsTargetOf}
use Rattle.wc_model.specs.Program.Positions.{Call, Position, start_of}
use Rattle.wc_model.specs.Program.Steps.{steps_of}
use Rattle.wc_graph.specs.declared.frames.Frame.{Frame}
use Rattle.wc_graph.specs.declared.frames.Leap.{Leap}
use Rattle.wc_graph.specs.declared.numbering.Numbering.{Numbering}
use Rattle.wc_graph.specs.declared.survey.Survey.{Survey}
use Rattle.wc_graph.specs.Inner.Assemblies.{IsAssembled, leaps_at, step_of, step_to, new_target, steps_from}
use Rattle.wc_graph.specs.Inner.Frames.{HasStack, frame_at, frame_of}
use Rattle.wc_graph.specs.Inner.Lists.{Has}
use Rattle.wc_graph.specs.Inner.Numberings.{AreRanked}
use Rattle.wc_graph.specs.Inner.Ordered.{rank_at}
use Rattle.wc_graph.specs.Inner.Orders.{Before, Pairs}
use Rattle.wc_graph.proofs.Assembled.{pairs_all}
use Rattle.wc_graph.proofs.AssemblyLemmas.{context_is}
use Rattle.wc_graph.proofs.GraphLemmas.{nodes_stand, started}
use Rattle.wc_graph.proofs.KeptLemmas.{AreKeptAll, kept_all}
use Rattle.wc_graph.proofs.LeadLemmas.{live_in}
use Rattle.wc_graph.proofs.NodeLemmas.{contexts, contexts_counted, stack_number, stacks}
use Rattle.wc_graph.proofs.OrderLemmas.{before_apart, before_trans, grows, pairs_append}
use Rattle.wc_graph.proofs.OrderedLemmas.{pairs_at}
use Rattle.wc_graph.proofs.PositionLemmas.{positions, ps, rank_is, stack_at, zip}
use Rattle.wc_graph.proofs.ReachLemmas.{get_has}
use Rattle.wc_graph.proofs.RisingLemmas.{has_append}
use Rattle.wc_graph.proofs.StackLemmas.{has_flat}
use Rattle.wc_graph.proofs.ZipLemmas.{zip_length, zip_right}

all_from : {X : Type 0} (P : X → Type 0) (xs : List X) → ((i : ℕ) (x : X) → slice_get xs i ≡ Some x → P x) → All P xs
all_from P xs each k d less = each k (get_or xs k d) (slice_get-get_or xs k d less)

-- the sources of the steps rise
abbrev Rising : NumberedStep → NumberedStep → Type 0
Rising s t = s.source ≤ t.source

module _ (leaps : List (List Leap)) (numbers : List (Option ℕ)) where
  one_source : (n : ℕ) (taken : Bool) (o : Option (Option ℕ)) (z : NumberedStep) → Has (step_to n taken o) z → z.source ≡ n
  one_source n taken None z (inl same) = ap (λ (s : NumberedStep). s.source) (sym same)
  one_source n taken None z (inr none) = absurd none
  one_source n taken (Some None) z none = absurd none
  one_source n taken (Some (Some t)) z (inl same) = ap (λ (s : NumberedStep). s.source) (sym same)
  one_source n taken (Some (Some t)) z (inr none) = absurd none

  own_source : (n : ℕ) (own : List Leap) (z : NumberedStep) → Has (flat_map (step_of numbers n) own) z → z.source ≡ n
  own_source n own z has = let from = has_flat (step_of numbers n) own z has in one_source n from.0.taken (new_target numbers from.0.target) z from.2

  later_source : (n : ℕ) (ks : List ℕ) (z : NumberedStep) → Has (steps_from leaps numbers n ks) z → n ≤ z.source
  later_source n [] z none = absurd none
  later_source n (k ∷ ks) z has = ⊎_elim
      (λ own. omega (arith, own_source n (leaps_at (slice_get leaps k)) z own))
      (λ later. omega (arith, later_source (n + 1) ks z later))
      (has_append (flat_map (step_of numbers n) (leaps_at (slice_get leaps k))) (steps_from leaps numbers (n + 1) ks) z has)

  same_rises : (n : ℕ) (zs : List NumberedStep) → ((z : NumberedStep) → Has zs z → z.source ≡ n) → Pairs Rising zs
  same_rises n [] same = tt
  same_rises n (z ∷ zs) same = ((λ t has. omega (arith, same z (inl refl), same t (inr has))), same_rises n zs (λ t has. same t (inr has)))

  sources_rise : (n : ℕ) (ks : List ℕ) → Pairs Rising (steps_from leaps numbers n ks)
  sources_rise n [] = tt
  sources_rise n (k ∷ ks) = pairs_append Rising (flat_map (step_of numbers n) (leaps_at (slice_get leaps k))) (steps_from leaps numbers (n + 1) ks)
      (same_rises n (flat_map (step_of numbers n) (leaps_at (slice_get leaps k))) (own_source n (leaps_at (slice_get leaps k))))
      (sources_rise (n + 1) ks)
      (λ s t has_s has_t. omega (arith, own_source n (leaps_at (slice_get leaps k)) s has_s, later_source (n + 1) ks t has_t))

stack_grows : (s t cs : List Call) (c : Call) → reverse s ≡ c ∷ cs → reverse t ≡ cs → Before t s
stack_grows s t cs c s_is t_is = subst (Before t) (sym whole) (grows t c)
  where
    whole : s ≡ t ++ c ∷ []
    whole = sym (reverse-reverse s) ∙ ap reverse (s_is ∙ ap (λ (xs : List Call). c ∷ xs) (sym t_is) ∙ sym (reverse-append t (c ∷ []))) ∙ reverse-reverse (t ++ c ∷ [])

module _ {image : Image} {facts : List Fact} {entry : ℕ} {survey : Survey} {ranking ordering : Numbering} (b : AreRanked image facts entry survey ranking ordering) where
  abbrev frames : List Frame
  frames = survey.code.frames.keys

  context_at : (k f : ℕ) (g : Frame) → slice_get ranking.order.items k ≡ Some f → slice_get frames f ≡ Some g → slice_get (contexts b) k ≡ Some (record { parent = option_and_then (rank_at ranking.numbers.items) g.parent; returns = g.returns; callee = g.callee })
  context_at k f g at_k at_f = context_is entry frames b.ranked.marks b.ranked.walkable ranking.order.items b.ranked.listed b.ranked.numbered.once (length frames) ranking.numbers.items b.ranked.numbered.placed k f g at_k at_f

  parent_of : (k : ℕ) (c : Context) (f : ℕ) (calls : List Call) → slice_get (contexts b) k ≡ Some c → slice_get ranking.order.items k ≡ Some f → HasStack entry frames f calls → (o : Option ℕ) → c.parent ≡ o → IfSome o (λ j. j < k)
  parent_of k c f [] at_c at_k stack None is = tt
  parent_of k c f [] at_c at_k stack (Some j) is =
      let root : Context = record { parent = None; returns = 0; callee = entry } in
      absurd (none-some j (ap (λ (d : Context). d.parent) (same_Some root c (sym (context_at k f (frame_of None (record { returns = 0; callee = entry })) at_k stack) ∙ at_c)) ∙ is))
  parent_of k c f (call ∷ cs) at_c at_k stack None is = tt
  parent_of k c f (call ∷ cs) at_c at_k stack (Some j) is =
      let e : ℕ = stack.0 in
      let marked = b.ranked.listed.live_are f (get_has ranking.order.items k f at_k) in
      let frame : frame_at frames f ≡ frame_of (Some e) call = get_or_from_slice_get frames f (frame_of (Some e) call) (record { parent = None; returns = 0; callee = 0 }) stack.1 in
      let below = b.ranked.walkable.below f e marked (ap (λ (g : Frame). g.parent) frame) in
      let rank = rank_is b e below in
      let own = context_at k f (frame_of (Some e) call) at_k stack.1 in
      let made : Context = record { parent = rank_at ranking.numbers.items e; returns = call.returns; callee = call.callee } in
      let one : rank.0 ≡ j = same_Some rank.0 j (sym rank.2 ∙ ap (λ (d : Context). d.parent) (same_Some made c (sym own ∙ at_c)) ∙ is) in
      let s = stack_at b k f (call ∷ cs) at_k stack in
      let t = stack_at b rank.0 e cs rank.1 stack.2 in
      let before : Before t.0 s.0 = stack_grows s.0 t.0 cs call s.2 t.2 in
      ⊎_elim
      (λ (less : rank.0 < k). omega (arith, one))
      (λ (from : k ≤ rank.0). absurd (⊎_elim
      (λ (more : k < rank.0). before_apart s.0 (before_trans s.0 t.0 s.0 (pairs_at Before b.ranked.listed.stacks k rank.0 s.0 t.0 b.ranked.listed.sorted more s.1 t.1) before))
      (λ (to : rank.0 ≤ k).
      let both : rank.0 ≡ k = omega arith in
      let same : t.0 ≡ s.0 = same_Some t.0 s.0 (sym t.1 ∙ ap (slice_get b.ranked.listed.stacks) both ∙ s.1) in
      before_apart s.0 (subst (λ (u : List Call). Before u s.0) same before))
      (cases_lt k rank.0)))
      (cases_lt rank.0 k)

  parents_below : (k : ℕ) (c : Context) → slice_get (contexts b) k ≡ Some c → IfSome c.parent (λ j. j < k)
  parents_below k c at =
      let less : k < length (contexts b) = slice_get_within (contexts b) k c at in
      let calls = get_within (stacks b) k (omega (arith, less, contexts_counted b)) in
      let f = stack_number b k calls.0 calls.1 in
      parent_of k c f.0 calls.0 at f.1 f.2 c.parent refl

  stack_within : (cs : List Context) (k : ℕ) (calls : List Call) → IsStack entry cs k calls → k < length cs
  stack_within cs k [] is = slice_get_within cs k (record { parent = None; returns = 0; callee = entry }) is
  stack_within cs k (c ∷ calls) is = slice_get_within cs k (record { parent = Some is.0; returns = c.returns; callee = c.callee }) is.1

  module _ (graph : Graph) (built : IsAssembled image survey ranking ordering graph) where
    nodes : AllZip (IsNodeOf image entry graph.contexts) graph.nodes (positions b)
    nodes = nodes_stand b graph built

    count : length graph.nodes ≡ length (positions b)
    count = zip_length (IsNodeOf image entry graph.contexts) graph.nodes (positions b) nodes

    places : length ordering.order.items ≡ length (positions b)
    places = zip_length (λ k q. slice_get (ps b) k ≡ Some q) ordering.order.items (positions b) (zip b)

    kept : AreKeptAll b graph.steps (flat_map (steps_of image facts entry) (positions b))
    kept = subst (λ (zs : List NumberedStep). AreKeptAll b zs (flat_map (steps_of image facts entry) (positions b))) (sym built.steps) (kept_all b)

    target_inside : (o : Option ℕ) (t : Option Position) → IsTargetOf (positions b) o t → IfSome o (λ q. q < length graph.nodes)
    target_inside None t is = tt
    target_inside (Some k) t is = omega (arith, slice_get_within (positions b) k is.0 is.1, count)

    pub is_numbered : IsGraph graph
    is_numbered = record {
      few = omega (arith, count, places, b.ordered.numbered.few);
      few_steps = built.few_steps;
      starts = omega (arith, count, slice_get_within (positions b) graph.start (start_of entry) (started b graph built));
      sources = all_from (λ (s : NumberedStep). s.source < length graph.nodes) graph.steps (λ i z at.
          let s = zip_right (IsStepOf (positions b)) graph.steps kept.some i z kept.stands at in
          omega (arith, count, slice_get_within (positions b) z.source s.0.source s.2.source_is));
      targets = all_from (λ (s : NumberedStep). IfSome s.target (λ q. q < length graph.nodes)) graph.steps (λ i z at.
          let s = zip_right (IsStepOf (positions b)) graph.steps kept.some i z kept.stands at in
          target_inside z.target s.0.target s.2.target_is);
      sorted = pairs_all Rising graph.steps (subst (Pairs Rising) (sym built.steps) (sources_rise survey.code.leaps ordering.numbers.items 0 ordering.order.items));
      live = λ k less. let p = get_within (positions b) k (omega (arith, less, count)) in live_in b graph.steps kept graph.start (started b graph built) k p.0 p.1;
      placed = all_from (λ (n : Node). n.context < length graph.contexts) graph.nodes (λ i n at.
          let p = zip_right (IsNodeOf image entry graph.contexts) graph.nodes (positions b) i n nodes at in
          stack_within graph.contexts n.context p.0.calls p.2.stack);
      parents = λ k c at. parents_below k c (subst (λ (cs : List Context). slice_get cs k ≡ Some c) built.contexts at);
    }
