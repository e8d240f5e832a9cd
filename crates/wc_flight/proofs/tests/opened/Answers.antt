use Rattle.wc_core.proofs.DrivingLemmas.{staffed_once, staffed_twice}
use Rattle.wc_flight.proofs.tests.opened.Goals as goal

pub opened_with-requires-clause-staffed : goal.opened_with-requires-clause-staffed
opened_with-requires-clause-staffed c = staffed_once

pub opened_with-requires-2-clause-staffed : goal.opened_with-requires-2-clause-staffed
opened_with-requires-2-clause-staffed c = staffed_twice
