use Rattle.std.proofs.Common.{rules, ◌∙◌, arith}
use Rattle.wc_system.proofs.CountLemmas.{row_next}
use Rattle.wc_system.proofs.cells.row_count.Goals as goal

pub loop-node-preserved : goal.loop-node-preserved
loop-node-preserved c = record {
  few = omega (arith, c.loop-node.invariant.few, c.one_unless-count.ensures.few);
  to_come = row_next c.args.system.now c.args.passed.now c.loop-node.node c.loop-node.count c.one_unless-count.result c.requires c.loop-node-test.true (search rules) ∙ c.loop-node.invariant.to_come;
}
