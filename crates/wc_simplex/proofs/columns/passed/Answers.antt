use Rattle.std.proofs.Common.{List, ℕ, ◌+◌, Option, sym, subst, arith}
use Rattle.wc_simplex.specs.Inner.Columns.{ArePassedTo}
use Rattle.wc_simplex.proofs.ColumnLemmas.{passed_more, through_step}
use Rattle.wc_simplex.proofs.columns.passed.Goals as goal

pub loop-node-preserved : goal.loop-node-preserved
loop-node-preserved c =
    let s = c.args.system.now in
    let e = through_step s c.in_ok-ins.ins.items c.in_ok-outs.outs.items c.loop-node.node c.index.result.now c.index-in-loop-node.result.now c.through.result
    c.in_ok-ins.ensures c.in_ok-outs.ensures (omega arith) c.index.ensures c.index-in-loop-node.ensures c.through.ensures in
    subst (λ (l : List (Option ℕ)). ArePassedTo s (c.loop-node.node + 1) l) (sym c.in_ok-push.ensures.items)
    (passed_more s c.loop-node.node c.loop-node.passed.items c.through.result c.loop-node.invariant e.0 e.1)
