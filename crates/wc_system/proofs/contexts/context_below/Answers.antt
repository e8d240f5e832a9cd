use Rattle.wc_system.proofs.ContextLemmas.{below_is}
use Rattle.wc_system.proofs.contexts.context_below.Goals as goal

pub returns : goal.returns
returns c = below_is c.args.contexts.now c.requires.parents c.args.context c.args.at c.below.result c.requires.known c.below.ensures
