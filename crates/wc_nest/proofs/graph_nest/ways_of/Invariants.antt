use Rattle.wc_nest.specs.Inner.Nestings.{AreWays}
use Rattle.wc_nest.proofs.graph_nest.ways_of.Given as goal

abbrev pub invariant-loop-index : goal.invariant-loop-index
invariant-loop-index l = AreWays l.steps l.index l.ways.items
