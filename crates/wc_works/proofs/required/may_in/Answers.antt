use Rattle.wc_works.proofs.GivenLemmas.{no_other_may}
use Rattle.wc_works.proofs.required.may_in.Goals as goal

pub unreachable-requires : goal.unreachable-requires
unreachable-requires c = no_other_may c.value_of.result.now c.value_of.ensures.number c.in_default.not-May
