use Rattle.std.proofs.Common.{length, ap, arith}
use Rattle.wc_simplex.proofs.ColumnLemmas.{ins_step}
use Rattle.wc_simplex.proofs.columns.ins.Goals as goal

pub loop-place-preserved : goal.loop-place-preserved
loop-place-preserved c =
    rw c.lead.ensures
    (ins_step c.args.system.now.nodes c.loop-place.place c.args.system.now.steps c.items-steps.result.now c.loop-place.ins.items _ c.items-steps.ensures c.loop-place.invariant
    (omega arith) (omega (arith, ap length c.items-steps.ensures)) c.requires.targets)
