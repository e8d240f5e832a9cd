use Rattle.std.proofs.Common.{◌≡◌, ℕ, zero, suc, ◌+◌, ◌<◌, ◌≤◌, List, length, slice_get, slice_index_or, Option, None, Some, true, refl, sym, ap, subst, ◌∙◌, arith, rules}
use Rattle.std.specs.Prelude.{All, AllPairs, IfSome}
use Rattle.wc_model.specs.declared.graphs.Context.{Context}
use Rattle.wc_model.specs.declared.graphs.Graph.{Graph}
use Rattle.wc_model.specs.declared.graphs.Head.{Head}
use Rattle.wc_model.specs.declared.graphs.Nest.{Nest}
use Rattle.wc_model.specs.declared.graphs.Node.{Node}
use Rattle.wc_model.specs.declared.graphs.Step.{Step}
use Rattle.wc_model.specs.Flow.Systems.{IsNestShape}
use Rattle.wc_model.specs.Program.Graphs.{IsGraph, LeadsIn}
use Rattle.wc_model.specs.Program.Reaching.{IsLive, here, along, exits, onward}
use Rattle.wc_system.specs.declared.tests.TheConstants.{CONTEXTS, NODES, STEPS, HEADS, INSIDE, BACK}
use Rattle.wc_system.proofs.tests.two_loops.Goals as goal

sources : (k : ℕ) (d : Step) → k < 4 → (slice_index_or STEPS k d).source < 2
sources zero d h = omega arith
sources (suc zero) d h = omega arith
sources (suc (suc zero)) d h = omega arith
sources (suc (suc (suc zero))) d h = omega arith
sources (suc (suc (suc (suc k)))) d h = absurd (omega arith)

targets : (k : ℕ) (d : Step) → k < 4 → IfSome (slice_index_or STEPS k d).target (λ q. q < 2)
targets zero d h = omega arith
targets (suc zero) d h = omega arith
targets (suc (suc zero)) d h = omega arith
targets (suc (suc (suc zero))) d h = tt
targets (suc (suc (suc (suc k)))) d h = absurd (omega arith)

later : (k : ℕ) (d : Step) → 0 < k → k < 4 → (slice_index_or STEPS k d).source ≡ 1
later zero d above h = absurd (omega arith)
later (suc zero) d above h = refl
later (suc (suc zero)) d above h = refl
later (suc (suc (suc zero))) d above h = refl
later (suc (suc (suc (suc k)))) d above h = absurd (omega arith)

into_loop : LeadsIn STEPS 0 (Some 1)
into_loop = let s : Step = slice_index_or STEPS 0 (record { source = 0; target = None; taken = true }) in (s, (0, omega arith, refl), refl, refl)

out : LeadsIn STEPS 1 None
out = let s : Step = slice_index_or STEPS 3 (record { source = 0; target = None; taken = true }) in (s, (3, omega arith, refl), refl, refl)

live : (k : ℕ) → k < 2 → IsLive (LeadsIn STEPS) 0 k
live zero h = (here, onward 1 into_loop (exits out))
live (suc zero) h = (along 1 here into_loop, exits out)
live (suc (suc k)) h = absurd (omega arith)

placed : (k : ℕ) (d : Node) → k < 2 → (slice_index_or NODES k d).context < 2
placed zero d h = omega arith
placed (suc zero) d h = omega arith
placed (suc (suc k)) d h = absurd (omega arith)

-- of an element, if there is one
parent : Option Context → Option ℕ
parent None = None
parent (Some c) = c.parent

outer : Option Head → Option ℕ
outer None = None
outer (Some h) = h.parent

node : Option Head → ℕ
node None = 0
node (Some h) = h.node

parents : (k : ℕ) (c : Context) → slice_get CONTEXTS k ≡ Some c → IfSome c.parent (λ j. j < k)
unfolding parent
parents zero c at = subst (λ o. IfSome (parent o) (λ j. j < 0)) at tt
parents (suc zero) c at = subst (λ o. IfSome (parent o) (λ j. j < 1)) at (omega arith)
parents (suc (suc k)) c at = cc

outers : (k : ℕ) (h : Head) → slice_get HEADS k ≡ Some h → IfSome h.parent (λ j. j < k)
unfolding outer
outers zero h at = subst (λ o. IfSome (outer o) (λ j. j < 0)) at tt
outers (suc zero) h at = subst (λ o. IfSome (outer o) (λ j. j < 1)) at (omega arith)
outers (suc (suc k)) h at = cc

node_is : (k : ℕ) (h : Head) → slice_get HEADS k ≡ Some h → h.node ≡ k
unfolding node
node_is zero h at = ap node (sym at)
node_is (suc zero) h at = ap node (sym at)
node_is (suc (suc k)) h at = cc

heads : (k : ℕ) (d : Head) → k < 2 → (slice_index_or HEADS k d).node < 2
heads zero d h = omega arith
heads (suc zero) d h = omega arith
heads (suc (suc k)) d h = absurd (omega arith)

inside : (k : ℕ) (d : Option ℕ) → k < 2 → IfSome (slice_index_or INSIDE k d) (λ j. j < 2)
inside zero d h = omega arith
inside (suc zero) d h = omega arith
inside (suc (suc k)) d h = absurd (omega arith)

is_graph : (contexts : List Context) (nodes : List Node) (steps : List Step) → contexts ≡ CONTEXTS → nodes ≡ NODES → steps ≡ STEPS
    → IsGraph (record { contexts = contexts; nodes = nodes; steps = steps; start = 0 })
is_graph contexts nodes steps by_contexts by_nodes by_steps =
    subst (λ cs. IsGraph (record { contexts = cs; nodes = nodes; steps = steps; start = 0 })) (sym by_contexts)
    (subst (λ ns. IsGraph (record { contexts = CONTEXTS; nodes = ns; steps = steps; start = 0 })) (sym by_nodes)
    (subst (λ ss. IsGraph (record { contexts = CONTEXTS; nodes = NODES; steps = ss; start = 0 })) (sym by_steps)
    (record {
      few = omega arith;
      few_steps = omega arith;
      starts = omega arith;
      sources = sources;
      targets = targets;
      sorted = λ i j d before within. omega (arith, sources i d (omega arith), later j d (omega arith) within);
      live = live;
      placed = placed;
      parents = parents;
    })))

is_shape : (graph : Graph) (heads' : List Head) (inside' : List (Option ℕ)) (back : List _) → length graph.nodes ≡ 2 → length graph.steps ≡ 4 → heads' ≡ HEADS → inside' ≡ INSIDE → back ≡ BACK
    → IsNestShape graph (record { heads = heads'; inside = inside'; back = back })
is_shape graph heads' inside' back nodes steps by_heads by_inside by_back =
    subst (λ hs. IsNestShape graph (record { heads = hs; inside = inside'; back = back })) (sym by_heads)
    (subst (λ os. IsNestShape graph (record { heads = HEADS; inside = os; back = back })) (sym by_inside)
    (subst (λ bs. IsNestShape graph (record { heads = HEADS; inside = INSIDE; back = bs })) (sym by_back)
    (record {
      few = omega (arith, nodes);
      heads = λ k d within. omega (arith, nodes, heads k d within);
      apart = λ i j x y first second same. sym (node_is i x first) ∙ same ∙ node_is j y second;
      parents = outers;
      inside_counted = sym nodes;
      inside = inside;
      back_counted = sym steps;
    })))

pub returns-clause-fit : goal.returns-clause-fit
returns-clause-fit c =
    let contexts : c.new.result ≡ CONTEXTS = search rules in
    let nodes : c.new-2.result ≡ NODES = search rules in
    let steps : c.new-3.result ≡ STEPS = search rules in
    let loops : c.new-4.result ≡ HEADS = search rules in
    let round : c.new-5.result ≡ INSIDE = search rules in
    let back : c.new-6.result ≡ BACK = search rules in
    (is_graph _ _ _ contexts nodes steps, is_shape _ _ _ _ (ap length nodes) (ap length steps) loops round back)

pub returns-clause-counted : goal.returns-clause-counted
returns-clause-counted c =
    let steps : c.new-3.result ≡ STEPS = search rules in
    let loops : c.new-4.result ≡ HEADS = search rules in
    (ap length steps, ap length loops)
