use Rattle.wc_works.proofs.GivenLemmas.{no_other_solution}
use Rattle.wc_works.proofs.required.solution_in.Goals as goal

pub unreachable-requires : goal.unreachable-requires
unreachable-requires c = no_other_solution c.value_of.result.now c.value_of.ensures.number c.in_default.not-Solution
