-- The control-flow graph of a function is one.
use Rattle.std.proofs.Common.{ℕ, ◌≡◌, ◌<◌, List, [], ◌∷◌, Option, None, Some, length, refl, sym, ap, subst, ◌∙◌, arith, Less}
use Rattle.std.specs.List.{AllPairs, AllZip, flat_map, slice_get}
use Rattle.std.proofs.lemmas.Option.{none-some, same_Some, slice_get_within}
use Rattle.wc_model.proofs.Places.{get_within}
use Rattle.wc_model.specs.declared.elf_image.Image.{Image}
use Rattle.wc_model.specs.declared.flow_facts.Fact.{Fact}
use Rattle.wc_model.specs.declared.graphs.Context.{Context}
use Rattle.wc_model.specs.declared.graphs.Graph.{Graph}
use Rattle.wc_model.specs.declared.graphs.Node.{Node}
use Rattle.wc_model.specs.declared.graphs.Step.{Step as NumberedStep}
use Rattle.wc_model.specs.Program.Graphs.{AreKept, IsGraphOf, IsKept, IsNodeOf, IsStack, IsStepOf, IsTargetOf}
use Rattle.wc_model.specs.Program.Positions.{Call, Position, position_cmp, stack_cmp, start_of}
use Rattle.wc_model.specs.Program.Steps.{Step, steps_of}
use Rattle.wc_laws.proofs.ContextCalls.{stack_at}
use Rattle.wc_laws.proofs.OneListLemmas.{kept_once, place_once, same_members, same_places, zip_left_once}
use Rattle.wc_laws.proofs.OneOrderLemmas.{positions_one_way, stacks_one_way}

-- a place in the order of positions, of stacks
abbrev Sooner : Position → Position → Type 0
Sooner p q = position_cmp p q ≡ Less

abbrev Lower : List Call → List Call → Type 0
Lower a b = stack_cmp a b ≡ Less

-- Contexts by their stacks.
module _ (entry : ℕ) (stacks : List (List Call)) (sorted : AllPairs Lower stacks) where
  pub record AreContexts (contexts : List Context) : Type 0 where
    pub counted : length contexts ≡ length stacks
    pub are : (k : ℕ) (calls : List Call) → slice_get stacks k ≡ Some calls → IsStack entry contexts k calls

  module _ (a b : List Context) (is : AreContexts a) (also : AreContexts b) where
    pub number_once : (calls : List Call) (i j : ℕ) → IsStack entry a i calls → IsStack entry b j calls → i ≡ j
    number_once calls i j stack other = place_once Lower stacks_one_way stacks sorted i j calls
        (stack_at a entry stacks sorted is.counted is.are i calls stack)
        (stack_at b entry stacks sorted also.counted also.are j calls other)

    context_same : (k : ℕ) (c d : Context) → slice_get a k ≡ Some c → slice_get b k ≡ Some d → c ≡ d
    context_same k c d at_c at_d =
        let low : k < length a = slice_get_within a k c at_c in
        let own = get_within stacks k (omega (arith, low, is.counted)) in
        by own.0 (is.are k own.0 own.1) (also.are k own.0 own.1)
      where
        by : (calls : List Call) → IsStack entry a k calls → IsStack entry b k calls → c ≡ d
        by [] stack other = same_Some c d (sym at_c ∙ stack ∙ sym other ∙ at_d)
        by (call ∷ calls) (i, at_i, rest) (j, at_j, more) =
            same_Some c d (sym at_c ∙ at_i ∙ ap (λ (n : ℕ). Some (record { parent = Some n; returns = call.returns; callee = call.callee })) (number_once calls i j rest more) ∙ sym at_j ∙ at_d)

    pub contexts_once : a ≡ b
    contexts_once = same_places a b (is.counted ∙ sym also.counted) context_same

target_once : (positions : List Position) → AllPairs Sooner positions → (o u : Option ℕ) (t : Option Position) → IsTargetOf positions o t → IsTargetOf positions u t → o ≡ u
target_once positions sorted None None t none other = refl
target_once positions sorted None (Some j) t none (q, at, is) = absurd (none-some q (sym none ∙ is))
target_once positions sorted (Some i) None t (p, at, is) none = absurd (none-some p (sym none ∙ is))
target_once positions sorted (Some i) (Some j) t (p, at_p, is) (q, at_q, also) =
    let same : p ≡ q = same_Some p q (sym is ∙ also) in
    ap (λ (n : ℕ). Some n) (place_once Sooner positions_one_way positions sorted i j p at_p (at_q ∙ ap (λ (r : Position). Some r) (sym same)))

module _ {image : Image} {facts : List Fact} {entry : ℕ} {g h : Graph} (a : IsGraphOf image facts entry g) (b : IsGraphOf image facts entry h) where
  positions_same : a.positions ≡ b.positions
  positions_same = same_members Sooner positions_one_way a.positions b.positions a.sorted b.sorted
      (λ p among. (b.live p).1 ((a.live p).0 among)) (λ p among. (a.live p).1 ((b.live p).0 among))

  stacks_same : a.stacks ≡ b.stacks
  stacks_same = same_members Lower stacks_one_way a.stacks b.stacks a.stacks_sorted b.stacks_sorted
      (λ calls among. (b.stacked calls).1 ((a.stacked calls).0 among)) (λ calls among. (a.stacked calls).1 ((b.stacked calls).0 among))

  steps_same : a.steps ≡ b.steps
  steps_same = kept_once (IsKept image facts entry) a.kept
      (subst (λ (ps : List Position). AreKept (IsKept image facts entry) (flat_map (steps_of image facts entry) ps) b.steps) (sym positions_same) b.kept)

  contexts_of : AreContexts entry a.stacks a.stacks_sorted g.contexts
  contexts_of = record { counted = a.contexts_counted; are = a.contexts }

  contexts_of_other : AreContexts entry a.stacks a.stacks_sorted h.contexts
  contexts_of_other = record {
    counted = b.contexts_counted ∙ ap (λ (ss : List (List Call)). length ss) (sym stacks_same);
    are = λ k calls at. b.contexts k calls (ap (λ (ss : List (List Call)). slice_get ss k) (sym stacks_same) ∙ at);
  }

  node_once : (m n : Node) (p : Position) → IsNodeOf image entry g.contexts m p → IsNodeOf image entry h.contexts n p → m ≡ n
  node_once m n p is also =
      let context : m.context ≡ n.context = number_once entry a.stacks a.stacks_sorted g.contexts h.contexts contexts_of contexts_of_other p.calls m.context n.context is.stack also.stack in
      let pc : m.pc ≡ n.pc = is.address ∙ sym also.address in
      let insn : m.insn ≡ n.insn = same_Some m.insn n.insn (sym is.instruction ∙ also.instruction) in
      λ n. record { context = context n; pc = pc n; insn = insn n }

  nodes_same : g.nodes ≡ h.nodes
  nodes_same = zip_left_once (IsNodeOf image entry g.contexts) (IsNodeOf image entry h.contexts) node_once g.nodes h.nodes a.positions a.nodes
      (subst (λ (ps : List Position). AllZip (IsNodeOf image entry h.contexts) h.nodes ps) (sym positions_same) b.nodes)

  step_once : (x z : NumberedStep) (s : Step) → IsStepOf a.positions x s → IsStepOf a.positions z s → x ≡ z
  step_once x z s is also =
      let source : x.source ≡ z.source = place_once Sooner positions_one_way a.positions a.sorted x.source z.source s.source is.source_is also.source_is in
      let target : x.target ≡ z.target = target_once a.positions a.sorted x.target z.target s.target is.target_is also.target_is in
      let taken : x.taken ≡ z.taken = is.taken_is ∙ sym also.taken_is in
      λ n. record { source = source n; target = target n; taken = taken n }

  numbered_same : g.steps ≡ h.steps
  numbered_same = zip_left_once (IsStepOf a.positions) (IsStepOf a.positions) step_once g.steps h.steps a.steps a.numbered
      (subst (λ (ps : List Position). AllZip (IsStepOf ps) h.steps a.steps) (sym positions_same)
      (subst (λ (ss : List Step). AllZip (IsStepOf b.positions) h.steps ss) (sym steps_same) b.numbered))

  pub graph_once : g ≡ h
  graph_once =
      let start : g.start ≡ h.start = place_once Sooner positions_one_way a.positions a.sorted g.start h.start (start_of entry) a.started
      (ap (λ (ps : List Position). slice_get ps h.start) positions_same ∙ b.started) in
      let contexts : g.contexts ≡ h.contexts = contexts_once entry a.stacks a.stacks_sorted g.contexts h.contexts contexts_of contexts_of_other in
      λ n. record { contexts = contexts n; nodes = nodes_same n; steps = numbered_same n; start = start n }
