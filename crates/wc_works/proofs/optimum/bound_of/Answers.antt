use Rattle.wc_works.proofs.QuotientLemmas.{bound_is, value_least}
use Rattle.wc_works.proofs.optimum.bound_of.Goals as goal

pub floor-requires-clause-some : goal.floor-requires-clause-some
floor-requires-clause-some c = value_least c.args.system.now c.args.solution.now c.requires
