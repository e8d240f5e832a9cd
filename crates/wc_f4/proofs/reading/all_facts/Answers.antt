use Rattle.std.proofs.Common.{refl, ◌∙◌}
use Rattle.wc_f4.specs.Places as place
use Rattle.wc_f4.specs.Views.{known, left}
use Rattle.wc_f4.proofs.ParsingLemmas.{at_end, behind, passed_on}
use Rattle.wc_f4.proofs.reading.all_facts.Goals as goal

pub returns-in_err-next_fact : goal.returns-in_err-next_fact
returns-in_err-next_fact c = behind c.from_residual.result _ _ _ c.facts.invariant (passed_on c.from_residual.result _ _ _ _ c.from_residual.ensures.1 c.in_err-next_fact.ensures.read)

pub returns : goal.returns
returns c = c.facts.invariant ∙ at_end (known c.facts.names) place.start place.start c.facts.facts.items (left c.facts.reader) refl c.facts-test.ensures
