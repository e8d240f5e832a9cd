use Rattle.wc_works.proofs.GivenLemmas.{no_other_nest}
use Rattle.wc_works.proofs.required.nest_in.Goals as goal

pub unreachable-requires : goal.unreachable-requires
unreachable-requires c = no_other_nest c.value_of.result.now c.value_of.ensures.number c.in_default.not-Nest
