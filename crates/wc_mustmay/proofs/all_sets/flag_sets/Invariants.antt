use Rattle.wc_mustmay.specs.Inner.OneSet.{AreSomeFlags}
use Rattle.wc_mustmay.proofs.all_sets.flag_sets.Given as goal

abbrev pub invariant-loop-set : goal.invariant-loop-set
invariant-loop-set g l = AreSomeFlags l.analysis l.cache.ways l.sets l.graph l.access.items l.set-items l.set-index l.flags.items
