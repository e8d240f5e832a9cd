use Rattle.wcet.specs.Loading.{past_files}
use Rattle.wcet.proofs.bound.answer_to.Goals as goal

-- no memory for the chain
pub returns-in-Err-outcome_of-clause-answer : goal.returns-in-Err-outcome_of-clause-answer
returns-in-Err-outcome_of-clause-answer g c = past_files c.in-Ok.loaded c.in-Ok.ensures.inputs.0 c.in-Ok.ensures.inputs.1
