use Rattle.wc_works.proofs.GivenLemmas.{no_other_category}
use Rattle.wc_works.proofs.required.category_in.Goals as goal

pub unreachable-requires : goal.unreachable-requires
unreachable-requires c = no_other_category c.value_of.result.now c.value_of.ensures.number c.in_default.not-Category
