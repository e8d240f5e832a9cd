use Rattle.std.proofs.Common.{◌<◌, ◌≤◌, length, ap, arith}
use Rattle.wc_nest.proofs.CheckLemmas.{graph_from}
use Rattle.wc_nest.proofs.tests.is_graph.Goals as goal

pub returns : goal.returns
returns c = λ all.
    let graph = c.args.graph.now in
    let few : length graph.nodes ≤ 100000 = omega (arith, ap length c.items-nodes.ensures, c.if-nodes-gt100000.false) in
    let few_steps : length graph.steps ≤ 100000 = omega (arith, ap length c.items-steps.ensures, c.if-steps-gt100000.false) in
    let starts : graph.start < length graph.nodes = omega (arith, ap length c.items-nodes.ensures, c.if-nodes-graph.false) in
    let placed = rw (c.items-nodes.ensures, c.items.ensures) at c.are_placed.ensures in
    let roots = rw c.items-2.ensures at c.are_roots.ensures in
    let ordered = rw (c.items-nodes.ensures, c.items-steps.ensures) at c.are_ordered.ensures in
    let joined = rw (c.items-nodes.ensures, c.items-steps.ensures) at c.in_ok-joined.ensures in
    let all_joined = rw c.deref.ensures.value at c.all_true.ensures in
    let ending = rw (c.items-nodes.ensures, c.items-steps.ensures) at c.in_ok-ending.ensures in
    let all_ending = rw c.deref-2.ensures.value at c.all_true-2.ensures in
    graph_from graph c.in_ok-joined.joined.items c.in_ok-ending.ending.items few few_steps starts (placed c.if-not-are_placed.false) (roots c.if-not-are_roots.false) (ordered c.if-not-are_ordered.false) joined.0 joined.1 (all_joined c.if-not-all_true.false) ending.0 ending.1 (all_ending all)
