use Rattle.wc_works.proofs.GivenLemmas.{no_other_bounds}
use Rattle.wc_works.proofs.required.bounds_in.Goals as goal

pub unreachable-requires : goal.unreachable-requires
unreachable-requires c = no_other_bounds c.value_of.result.now c.value_of.ensures.number c.in_default.not-Bounds
