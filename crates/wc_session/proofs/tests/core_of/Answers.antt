use Rattle.wc_session.proofs.DrivingLemmas.{opened_two, staffed_two}
use Rattle.wc_session.proofs.tests.core_of.Goals as goal

pub new-requires-clause-staffed : goal.new-requires-clause-staffed
new-requires-clause-staffed c κs = staffed_two _ _ c.in_ok-registry.ensures c.in_ok-works.ensures.kinds

pub returns-clause-free : goal.returns-clause-free
returns-clause-free c = (opened_two _ _ c.in_ok-registry.ensures c.in_ok-works.ensures.kinds (λ _ _ _. Unit {0}) _ _ _ _ c.in_ok-core.ensures).0

pub returns-clause-alone : goal.returns-clause-alone
returns-clause-alone c = (opened_two _ _ c.in_ok-registry.ensures c.in_ok-works.ensures.kinds (λ _ _ _. Unit {0}) _ _ _ _ c.in_ok-core.ensures).1
