use Rattle.std.proofs.Common.{refl}
use Rattle.wc_hw.proofs.reading.hardware_of.Goals as goal

pub invariant_of-result : goal.invariant_of-result
invariant_of-result c = record { uncached = rw (c.in-Ok.ensures.2, c.in-Ok.ensures.3) refl }
