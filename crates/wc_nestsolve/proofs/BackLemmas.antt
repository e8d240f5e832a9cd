-- The back steps that a nest marks, and that no steps ahead make a cycle.
use Rattle.std.proofs.Common.{ℕ, zero, suc, ◌≡◌, ◌<◌, Bool, true, false, Option, None, Some, length, sym, ap, subst, ◌∙◌}
use Rattle.std.specs.List.{Contains, slice_get}
use Rattle.std.proofs.lemmas.List.Elements.{All-contains}
use Rattle.std.proofs.lemmas.Option.{get_or_from_slice_get}
use Rattle.wc_model.specs.declared.graphs.Graph.{Graph}
use Rattle.wc_model.specs.declared.graphs.Head.{Head}
use Rattle.wc_model.specs.declared.graphs.Nest.{Nest}
use Rattle.wc_model.specs.declared.graphs.Step.{Step}
use Rattle.wc_model.specs.Flow.Nest.{HeadAt, ClassAt, IsBack, IsNest}
use Rattle.wc_model.specs.Flow.Systems.{is_marked}
use Rattle.wc_model.specs.Flow.Walks.{LeadsOn}
use Rattle.wc_model.specs.Program.Graphs.{IsGraph}
use Rattle.wc_model.specs.Program.Reaching.{Reaches, here, along}
use Rattle.wc_model.proofs.Places.{contains_from_get}
use Rattle.wc_nest.specs.Inner.Nests.{StepAt}
use Rattle.wc_nest.proofs.FlagLemmas.{not_both}
use Rattle.wc_nest.proofs.NestLemmas.{zip_at}
use Rattle.wc_nest.proofs.RelationLemmas.{leads_map, led_on, led_one, led_reach, reaches_map, reaches_on, together_step}
use Rattle.wc_nestsolve.specs.Inner.Nested.{lies}
use Rattle.wc_nestsolve.proofs.NestedLemmas.{all_lies, innermost, level_of, lies_class, lies_is}

-- a step of the graph that isn't a back step leads from `p` to `o`
abbrev pub GoesAhead : Graph → Nest → ℕ → Option ℕ → Type 0
GoesAhead graph nest p o = (i : ℕ) × (s : Step) × (slice_get graph.steps i ≡ Some s) × (is_marked nest i ≡ false) × (s.source ≡ p) × (s.target ≡ o)

module _ (graph : Graph) (is_graph : IsGraph graph) (nest : Nest) (of : IsNest graph nest) where
  -- back steps
  flag_for : (i : ℕ) (s : Step) → slice_get graph.steps i ≡ Some s → (b : Bool) × (is_marked nest i ≡ b) × ((b ≡ true) → IsBack graph s) × (IsBack graph s → b ≡ true)
  flag_for i s at =
      let z = zip_at (λ (t : Step) (b : Bool). ((b ≡ true) → IsBack graph t) × (IsBack graph t → b ≡ true)) graph.steps nest.back of.backs i s at in
      (z.0, get_or_from_slice_get nest.back i z.0 false z.1, z.2.0, z.2.1)

  -- a back step leads to the head of a loop that its source lies in
  pub lies_back : (i : ℕ) (s : Step) → slice_get graph.steps i ≡ Some s → is_marked nest i ≡ true → (k : ℕ) × (x : Head) × (slice_get nest.heads k ≡ Some x) × (s.target ≡ Some x.node) × (lies nest k s.source ≡ true)
  lies_back i s at is =
      let flag = flag_for i s at in
      let back = flag.2 (sym flag.1 ∙ is) in
      let head = of.all back.0 back.1 back.3.0 in
      let here_head : HeadAt graph back.0 head.1.node = subst (λ (h : ℕ). HeadAt graph back.0 h) (sym head.3) back.3.0 in
      (head.0, head.1, head.2, back.2 ∙ ap Some (sym head.3), all_lies graph is_graph nest of head.0 s.source (back.0, (head.1, head.2, here_head, subst (λ (h : ℕ). ClassAt graph back.0 h s.source) (sym head.3) (back.3.1.1, back.3.1.0))))

  -- and such a step is a back step
  pub back_lies : (i k : ℕ) (s : Step) (x : Head) → slice_get graph.steps i ≡ Some s → slice_get nest.heads k ≡ Some x → s.target ≡ Some x.node → lies nest k s.source ≡ true → is_marked nest i ≡ true
  back_lies i k s x at at_x to is =
      let flag = flag_for i s at in
      let level = level_of graph is_graph nest of k x at_x in
      let among : Contains graph.steps s = contains_from_get graph.steps i s at in
      let class = lies_class graph is_graph nest of k s.source level.0 x at_x level.1 (lies_is graph is_graph nest of k s.source is (All-contains (λ (t : Step). t.source < length graph.nodes) graph.steps s is_graph.sources among)) in
      flag.1 ∙ flag.3 (level.0, x.node, to, (level.1, (class.1, class.0)))

  -- no cycle of steps ahead
  module _ (p : ℕ) where
    -- the steps ahead on a way from `p` back to it
    abbrev OnCycle : ℕ → Option ℕ → Type 0
    OnCycle q None = ⊥
    OnCycle q (Some r) = GoesAhead graph nest q (Some r) × Reaches (GoesAhead graph nest) p q × Reaches (GoesAhead graph nest) r p

    on_cycle : (a : ℕ) {b : ℕ} → Reaches (GoesAhead graph nest) p a → Reaches (GoesAhead graph nest) a b → Reaches (GoesAhead graph nest) b p → Reaches OnCycle a b
    on_cycle a to_a here to_p = here
    on_cycle a to_a (along {q = m} b way step) to_p = along b (on_cycle a to_a way (reaches_on (GoesAhead graph nest) m (led_reach (GoesAhead graph nest) m b (led_one (GoesAhead graph nest) m b step)) to_p)) (step, reaches_on (GoesAhead graph nest) p to_a way, to_p)

    -- they are steps of each level
    cycle_at : (l q r : ℕ) → OnCycle q (Some r) → StepAt graph l q (Some r)
    cycle_at zero q r ((i, s, at, flag, from, to), to_q, to_p) = (s, contains_from_get graph.steps i s at, from, to)
    cycle_at (suc l) q r step =
        let before : StepAt graph l q (Some r) = cycle_at l q r step in
        let to_q : Reaches (GoesAhead graph nest) r q = reaches_on (GoesAhead graph nest) r step.2 step.1 in
        let back : Reaches OnCycle r q = on_cycle r (along r step.1 step.0) to_q (led_reach (GoesAhead graph nest) q p (on_led_step q r step.0 step.2)) in
        let both : ClassAt graph l q r = together_step (StepAt graph l) graph.start q r before (reaches_map OnCycle (StepAt graph l) (cycle_at l) r back) in
        (before, both, λ head. no_back step.0 head both)
      where
        on_led_step : (q r : ℕ) → GoesAhead graph nest q (Some r) → Reaches (GoesAhead graph nest) r p → LeadsOn (GoesAhead graph nest) q p
        on_led_step q r step way = led_on (GoesAhead graph nest) q r (led_one (GoesAhead graph nest) q r step) way

        no_back : GoesAhead graph nest q (Some r) → HeadAt graph l r → ClassAt graph l q r → ⊥
        no_back (i, s, at, flag, from, to) head both =
            let known = flag_for i s at in
            let is : known.0 ≡ true = known.3 (l, r, to, (head, subst (λ (x : ℕ). ClassAt graph l x r) (sym from) both)) in
            not_both is (sym known.1 ∙ flag)

    pub none_ahead : LeadsOn (GoesAhead graph nest) p p → ⊥
    none_ahead (m, way, step) =
        let cycle : LeadsOn OnCycle p p = (m, on_cycle p here way (led_reach (GoesAhead graph nest) m p (led_one (GoesAhead graph nest) m p step)), (step, way, here)) in
        ended (λ l. let led = leads_map OnCycle (StepAt graph l) (cycle_at l) p p cycle in (led, led))
      where
        ended : ((l : ℕ) → ClassAt graph l p p) → ⊥
        ended looped = let loop = innermost graph is_graph nest of 0 p (looped 0) in loop.4 (looped (suc loop.0))
