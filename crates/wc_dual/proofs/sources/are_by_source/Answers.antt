use Rattle.std.proofs.Common.{None, arith}
use Rattle.wc_dual.proofs.SourceLemmas.{sorted_more}
use Rattle.wc_dual.proofs.sources.are_by_source.Goals as goal

pub loop-place-preserved : goal.loop-place-preserved
loop-place-preserved c =
    sorted_more c.args.steps.now c.loop-place.place (record { source = 0; target = None; cost = 0 }) (omega arith) (omega arith) c.loop-place.invariant (omega arith)
