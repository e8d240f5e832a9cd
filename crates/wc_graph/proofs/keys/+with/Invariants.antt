use Rattle.wc_graph.specs.Inner.Keys.{after}
use Rattle.wc_graph.proofs.keys.+with.Given as goal

abbrev pub decreases-with : goal.decreases-with
decreases-with l = after l.root
