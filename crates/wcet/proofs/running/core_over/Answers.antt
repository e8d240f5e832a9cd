use Rattle.wcet.proofs.RegistryLemmas.{opened_as, staffed}
use Rattle.wcet.proofs.running.core_over.Goals as goal

pub new-requires-2-clause-staffed : goal.new-requires-2-clause-staffed
new-requires-2-clause-staffed g c κs within = staffed _ _ c.in_ok-registry.ensures c.requires.kinds

pub returns-clause-free : goal.returns-clause-free
returns-clause-free g c = (opened_as _ _ _ _ _ _ _ c.in_ok-registry.ensures c.requires.kinds c.in_ok-core.ensures).free

pub returns-clause-alone : goal.returns-clause-alone
returns-clause-alone g c = (opened_as _ _ _ _ _ _ _ c.in_ok-registry.ensures c.requires.kinds c.in_ok-core.ensures).alone_is
