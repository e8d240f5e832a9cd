-- A path that meets the facts meets the rows of the system's loops.
use Rattle.std.proofs.Common.{ℕ, zero, suc, ◌≡◌, ◌==◌, ◌&&◌, ◌+◌, ◌*◌, ◌≤◌, Bool, true, false, not, if◌then◌else◌, List, [], ◌∷◌, Some, refl, sym, ap, subst, ◌∙◌}
use Rattle.std.specs.Prelude.{All}
use Rattle.std.specs.List.{AllZip, slice_get}
use Rattle.std.proofs.lemmas.Bool.{and_parts, not-false, not-true, true≢false}
use Rattle.std.proofs.lemmas.List.Elements.{All-cons}
use Rattle.wc_base.proofs.TestLemmas.{and_cut}
use Rattle.wc_model.specs.declared.elf_image.Image.{Image}
use Rattle.wc_model.specs.declared.flow_facts.Fact.{Fact}
use Rattle.wc_model.specs.declared.flow_system.System.{System}
use Rattle.wc_model.specs.declared.graphs.Category.{Category}
use Rattle.wc_model.specs.declared.graphs.Graph.{Graph}
use Rattle.wc_model.specs.declared.graphs.Head.{Head}
use Rattle.wc_model.specs.declared.graphs.Nest.{Nest}
use Rattle.wc_model.specs.declared.machine.Cycles.{Cycles}
use Rattle.wc_model.specs.Cache.Costs.{upper, upper_costs}
use Rattle.wc_model.specs.Flow.Bounds.{Counted, nothing, counts, passes as passes_by, Enters, GoesBack, IsBoundOf, MeetsLoops, StandsFor}
use Rattle.wc_model.specs.Flow.Nest.{ClassAt, HeadAt, IsHeadAt, IsNest, TogetherAt}
use Rattle.wc_model.specs.Flow.Places.{is_listed, places_of}
use Rattle.wc_model.specs.Flow.SystemWalks.{MeetsLoop, passes}
use Rattle.wc_model.specs.Flow.Systems.{is_back, is_entry, is_marked, leads_to, system_loop, system_loops, system_steps}
use Rattle.wc_model.specs.Program.Graphs.{IsGraphOf, IsNodeOf, LeadsIn}
use Rattle.wc_model.specs.Program.Positions.{Position, start_of}
use Rattle.wc_model.specs.Program.Steps.{Step}
use Rattle.wc_dual.proofs.DualityLemmas.{same_number}
use Rattle.wc_graph.proofs.ReachLemmas.{target_some}
use Rattle.wc_graph.proofs.ZipLemmas.{zip_right}
use Rattle.wc_system.proofs.SoundLemmas.{all_none}
use Rattle.wc_laws.proofs.ContextCalls.{calls_once, stack_calls}
use Rattle.wc_laws.proofs.Correspondence.{class_at_back, class_at_forth, head_at_back}
use Rattle.wc_laws.proofs.GraphPlaces.{IsAt, Live, Stands, once, same, target_at}
use Rattle.wc_laws.proofs.ListedPlaces.{listed_is, passes_counted, test_same}
use Rattle.wc_laws.proofs.NestLevels.{back_class, leads_some, marked_back, some_leads}
use Rattle.wc_laws.proofs.PathCosts.{costed, system_step}

module _ {image : Image} {facts : List Fact} {entry : ℕ} {graph : Graph} (of : IsGraphOf image facts entry graph)
    (categories : List Category) (c : Cycles) (system : System) (are : system.steps ≡ system_steps graph.steps (upper_costs graph categories c))
    (nest : Nest) (nest_is : IsNest graph nest) where
  -- one loop, by its head
  module _ (h : Position) (g k : ℕ) (at_h : IsAt of h g) (head : HeadAt graph k g) where
    head_is : IsHeadAt (Live of) (start_of entry) k h
    head_is = head_at_back (IsAt of) (once of) (start_of entry) graph.start of.started (Live of) (LeadsIn graph.steps) (same of) k h g at_h head

    leads_here : (i : ℕ) (s : Step) (stands : Stands of i s) → stands.numbered.target ≡ Some g → s.target ≡ Some h
    leads_here i s stands target =
        let to = target_at of.positions stands.numbered.target g s.target target stands.is.target_is in
        to.2 ∙ ap Some ((once of).right to.0 h g to.1 at_h)

    here_leads : (i : ℕ) (s : Step) (stands : Stands of i s) → s.target ≡ Some h → stands.numbered.target ≡ Some g
    here_leads i s stands target =
        let to = target_some of.positions stands.numbered.target s.target h target stands.is.target_is in
        to.1 ∙ ap Some ((once of).left h to.0 g to.2 at_h)

    class_is : (i : ℕ) (s : Step) (stands : Stands of i s) → ClassAt graph k stands.numbered.source g → TogetherAt (Live of) (start_of entry) k s.source h
    class_is i s stands both = class_at_back (IsAt of) (once of) (start_of entry) graph.start of.started (Live of) (LeadsIn graph.steps) (same of) k s.source h stands.numbered.source g stands.is.source_is at_h both

    is_class : (i : ℕ) (s : Step) (stands : Stands of i s) → TogetherAt (Live of) (start_of entry) k s.source h → ClassAt graph k stands.numbered.source g
    is_class i s stands both = class_at_forth (IsAt of) (once of) (start_of entry) graph.start of.started (Live of) (LeadsIn graph.steps) (same of) k s.source h stands.numbered.source g stands.is.source_is at_h both

    -- a step to the head is marked where it comes from the head's class
    mark_class : (i : ℕ) (s : Step) (stands : Stands of i s) → stands.numbered.target ≡ Some g → is_marked nest i ≡ true → TogetherAt (Live of) (start_of entry) k s.source h
    mark_class i s stands target marked = class_is i s stands (back_class graph stands.numbered k g head target ((marked_back graph nest nest_is i stands.numbered stands.there).0 marked))

    class_mark : (i : ℕ) (s : Step) (stands : Stands of i s) → stands.numbered.target ≡ Some g → TogetherAt (Live of) (start_of entry) k s.source h → is_marked nest i ≡ true
    class_mark i s stands target both = (marked_back graph nest nest_is i stands.numbered stands.there).1 (k, g, target, (head, is_class i s stands both))

    abbrev backs : List ℕ
    backs = places_of (is_back nest g) system.steps

    abbrev entries : List ℕ
    entries = places_of (is_entry nest g) system.steps

    back_listed : (i : ℕ) (s : Step) (stands : Stands of i s) → is_listed i backs ≡ (leads_to stands.numbered.target g && is_marked nest i)
    back_listed i s stands = listed_is (is_back nest g) system.steps i (costed (upper graph categories c) stands.numbered) (system_step of categories c system are i s stands)

    entry_listed : (i : ℕ) (s : Step) (stands : Stands of i s) → is_listed i entries ≡ (leads_to stands.numbered.target g && not (is_marked nest i))
    entry_listed i s stands = listed_is (is_entry nest g) system.steps i (costed (upper graph categories c) stands.numbered) (system_step of categories c system are i s stands)

    goes_back : (i : ℕ) (s : Step) → Stands of i s → is_listed i backs ≡ true → GoesBack (Live of) (start_of entry) k h s
    goes_back i s stands is =
        let both = and_parts (leads_to stands.numbered.target g) (is_marked nest i) (sym (back_listed i s stands) ∙ is) in
        let target : stands.numbered.target ≡ Some g = leads_some stands.numbered.target g both.0 in
        (leads_here i s stands target, (head_is, mark_class i s stands target both.1))

    only_back : (i : ℕ) (s : Step) → Stands of i s → is_listed i backs ≡ false → GoesBack (Live of) (start_of entry) k h s → ⊥
    only_back i s stands is back =
        let target : stands.numbered.target ≡ Some g = here_leads i s stands back.0 in
        let unmarked = and_cut (leads_to stands.numbered.target g) (is_marked nest i) (some_leads stands.numbered.target g target) (sym (back_listed i s stands) ∙ is) in
        true≢false (sym (class_mark i s stands target back.1.1) ∙ unmarked)

    enters : (i : ℕ) (s : Step) → Stands of i s → is_listed i entries ≡ true → Enters (Live of) (start_of entry) k h s
    enters i s stands is =
        let both = and_parts (leads_to stands.numbered.target g) (not (is_marked nest i)) (sym (entry_listed i s stands) ∙ is) in
        let target : stands.numbered.target ≡ Some g = leads_some stands.numbered.target g both.0 in
        (leads_here i s stands target, (head_is, λ together. true≢false (sym (class_mark i s stands target together) ∙ not-true (is_marked nest i) both.1)))

    only_entry : (i : ℕ) (s : Step) → Stands of i s → is_listed i entries ≡ false → Enters (Live of) (start_of entry) k h s → ⊥
    only_entry i s stands is enters' =
        let target : stands.numbered.target ≡ Some g = here_leads i s stands enters'.0 in
        let unmarked = and_cut (leads_to stands.numbered.target g) (not (is_marked nest i)) (some_leads stands.numbered.target g target) (sym (entry_listed i s stands) ∙ is) in
        enters'.1.1 (mark_class i s stands target (not-false (is_marked nest i) unmarked))

    -- a path begins with an entry of the loop round its start
    begun : (b : Bool) → (g == graph.start) ≡ b → Counted (λ (p : Position). p ≡ start_of entry) (h ∷ []) (if b then 1 else 0)
    begun true is = counts ((once of).right h (start_of entry) graph.start (subst (λ (n : ℕ). IsAt of h n) (same_number graph.start g is) at_h) of.started) nothing
    begun false is = passes_by (λ same. true≢false (sym (test_same g graph.start ((once of).left h g graph.start at_h (subst (λ (p : Position). IsAt of p graph.start) (sym same) of.started))) ∙ is)) nothing

    pub loop_met : (bound : ℕ) (places : List ℕ) (path : List Step) → AllZip (Stands of) places path → IsBoundOf facts h bound → MeetsLoops (Live of) (start_of entry) (IsBoundOf facts) path
        → passes backs places ≤ bound * (passes entries places + (if g == graph.start then 1 else 0))
    loop_met bound places path stand is meets = meets k h bound (passes backs places) (passes entries places) (if g == graph.start then 1 else 0) head_is is
        (passes_counted (Stands of) backs (GoesBack (Live of) (start_of entry) k h) goes_back only_back places path stand)
        (passes_counted (Stands of) entries (Enters (Live of) (start_of entry) k h) enters only_entry places path stand)
        (begun (g == graph.start) refl)

  -- the position of a head
  head_at : (x : Head) (p : Position) → StandsFor graph x p → IsAt of p x.node
  head_at x p (node, at, pc, calls) =
      let q = zip_right (IsNodeOf image entry graph.contexts) graph.nodes of.positions x.node node of.nodes at in
      let same_calls : q.0.calls ≡ p.calls = calls_once graph.contexts q.0.calls p.calls node.context (stack_calls graph.contexts entry q.0.calls node.context q.2.stack) calls in
      let same_pc : q.0.pc ≡ p.pc = sym q.2.address ∙ pc in
      let one : q.0 ≡ p = λ i. record { calls = same_calls i; pc = same_pc i } in
      q.1 ∙ ap Some one

  module _ (places : List ℕ) (path : List Step) (stand : AllZip (Stands of) places path) (meets : MeetsLoops (Live of) (start_of entry) (IsBoundOf facts) path) (starts : system.start ≡ graph.start) where
    row_met : (x : Head) (bound k : ℕ) (p : Position) → StandsFor graph x p → IsBoundOf facts p bound → HeadAt graph k x.node → MeetsLoop system.start places (system_loop nest system.steps x bound)
    row_met x bound k p stands is head = subst (λ (b : ℕ). passes (places_of (is_back nest x.node) system.steps) places ≤ bound * (passes (places_of (is_entry nest x.node) system.steps) places + (if x.node == b then 1 else 0)))
        (sym starts) (loop_met p x.node k (head_at x p stands) head bound places path stand is meets)

    pub loops_met : (heads : List Head) (bounds : List ℕ) → ((i : ℕ) (x : Head) → slice_get heads i ≡ Some x → (k : ℕ) × HeadAt graph k x.node)
        → AllZip (λ head bound. (p : Position) × StandsFor graph head p × IsBoundOf facts p bound) heads bounds → All (MeetsLoop system.start places) (system_loops nest system.steps heads bounds)
    loops_met [] bounds are_heads all = all_none (MeetsLoop system.start places)
    loops_met (x ∷ heads) [] are_heads all = absurd all
    loops_met (x ∷ heads) (n ∷ bounds) are_heads (own, all) =
        let head = are_heads zero x refl in
        All-cons (MeetsLoop system.start places) (system_loop nest system.steps x n) (system_loops nest system.steps heads bounds)
        (row_met x n head.0 own.0 own.1 own.2 head.1)
        (loops_met heads bounds (λ i y at. are_heads (suc i) y at) all)
