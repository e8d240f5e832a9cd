use Rattle.std.proofs.Common.{arith}
use Rattle.wc_mustmay.proofs.MetLemmas.{has_sets}
use Rattle.wc_mustmay.proofs.all_sets.met_sets.Goals as goal

pub returns : goal.returns
returns c = has_sets c.args.sets c.args.access.now c.loop-line.line-index c.loop-line.seen.items c.loop-set.met.items c.requires (omega (arith, c.loop-line-test.false)) c.loop-line.invariant
    (λ s below marked. c.loop-set.invariant s (omega (arith, below, c.loop-set-test.false)) marked)
