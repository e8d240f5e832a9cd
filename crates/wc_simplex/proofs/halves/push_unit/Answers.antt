use Rattle.std.proofs.Common.{◌==◌, rules}
use Rattle.wc_model.specs.Flow.Tableaus.{one_if}
use Rattle.wc_simplex.proofs.HalfLemmas.{pushed_range}
use Rattle.wc_simplex.proofs.halves.push_unit.Goals as goal

pub loop-place-preserved : goal.loop-place-preserved
loop-place-preserved c =
    rw c.in_ok-push.ensures.items
    (pushed_range (λ k. one_if (k == c.args.own)) c.args.row.now.items c.loop-place.row.items c.loop-place.place c.one_if.result c.loop-place.invariant (search rules)
    c.one_if.ensures.value)
