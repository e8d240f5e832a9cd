use Rattle.std.proofs.Common.{[], rules}
use Rattle.wc_simplex.specs.Inner.Prices.{merged}
use Rattle.wc_simplex.proofs.HalfLemmas.{pushed_range}
use Rattle.wc_simplex.proofs.reading.merge.Goals as goal

pub loop-node-preserved : goal.loop-node-preserved
loop-node-preserved c =
    rw c.in_ok-push.ensures.items
    (pushed_range (merged c.args.passed.now c.args.nodes.now c.args.inner.now) [] c.loop-node.merged.items c.loop-node.node c.choose.result c.loop-node.invariant (search rules) (search rules))
