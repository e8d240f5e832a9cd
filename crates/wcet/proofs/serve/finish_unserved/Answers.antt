use Rattle.wcet.proofs.ServingLemmas.{shows_written}
use Rattle.wcet.proofs.serve.finish_unserved.Goals as goal

pub returns-in-WriteFault-clause-line : goal.returns-in-WriteFault-clause-line
returns-in-WriteFault-clause-line g c = rw c.in-WriteFault.is (shows_written c.write_whole.result _ _ _ _ _ c.write_whole.ensures.text c.write_whole.ensures.cause)
