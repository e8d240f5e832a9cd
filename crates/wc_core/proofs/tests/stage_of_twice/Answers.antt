use Rattle.wc_core.proofs.DrivingLemmas.{staffed_twice}
use Rattle.wc_core.proofs.tests.stage_of_twice.Goals as goal

pub stage_with-requires-clause-staffed : goal.stage_with-requires-clause-staffed
stage_with-requires-clause-staffed c = staffed_twice
