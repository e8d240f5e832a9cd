use Rattle.std.proofs.Common.{length, subst, ◌∙◌}
use Rattle.wc_system.specs.Inner.Counted.{AreCounts, enters_node, leaves_node}
use Rattle.wc_system.proofs.CountLemmas.{counts_all, passed_next, read_at}
use Rattle.wc_system.proofs.cells.passed_nodes.Goals as goal

pub loop-node-preserved : goal.loop-node-preserved
loop-node-preserved c =
    let steps = c.args.system.now.steps in
    let nodes = c.args.system.now.nodes in
    let node = c.loop-node.node in
    let ins = subst (λ xs. AreCounts enters_node xs nodes (length xs) c.in_ok-ins.ins.items) c.items-2.ensures c.in_ok-ins.ensures in
    let outs = subst (λ xs. AreCounts leaves_node xs nodes (length xs) c.in_ok-outs.outs.items) c.items.ensures c.in_ok-outs.ensures in
    rw c.in_ok-push.ensures.items (passed_next c.args.system.now node c.loop-node.passed.items _ _ c.is_passed.result c.loop-node.invariant
    (read_at c.in_ok-ins.ins.items node c.index.result.now nodes ins.counted c.loop-node-test.true c.index.ensures ∙ counts_all enters_node steps nodes c.in_ok-ins.ins.items node ins c.loop-node-test.true)
    (read_at c.in_ok-outs.outs.items node c.index-in-loop-node.result.now nodes outs.counted c.loop-node-test.true c.index-in-loop-node.ensures ∙ counts_all leaves_node steps nodes c.in_ok-outs.outs.items node outs c.loop-node-test.true)
    c.is_passed.ensures)
