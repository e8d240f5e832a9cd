use Rattle.wc_simplex.proofs.MakingLemmas.{nodes_go, nodes_stop}
use Rattle.wc_simplex.proofs.making.add_nodes.Goals as goal

pub returns-in-None : goal.returns-in-None
returns-in-None c =
    nodes_stop c.args.system.now c.args.columns.now c.args.slacks c.loop-node.node c.args.made.now.items c.loop-node.made.items c.add_node.new.made.items c.in_ok-add_node.field-0
    c.loop-node-test.true c.loop-node.invariant c.in_ok-add_node.ensures c.in-None.is

pub loop-node-preserved : goal.loop-node-preserved
loop-node-preserved c =
    nodes_go c.args.system.now c.args.columns.now c.args.slacks c.loop-node.node c.args.made.now.items c.loop-node.made.items c.add_node.new.made.items c.in_ok-add_node.field-0
    c.in-Some.field-0 c.loop-node-test.true c.loop-node.invariant c.in_ok-add_node.ensures c.in-Some.is
