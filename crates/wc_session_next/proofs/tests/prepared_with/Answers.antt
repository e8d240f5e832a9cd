use Rattle.wc_session.proofs.DrivingLemmas.{staffed_two}
use Rattle.wc_session_next.proofs.tests.prepared_with.Goals as goal

pub prepare-requires-clause-staffed : goal.prepare-requires-clause-staffed
prepare-requires-clause-staffed c κs = staffed_two _ _ c.in_ok-registry.ensures c.in_ok-works.ensures.kinds
