use Rattle.wc_bounds.proofs.TallyLemmas.{places_of}
use Rattle.wc_nestsolve.proofs.ShapeLemmas.{nest_shape}
use Rattle.wcet.proofs.ChainLemmas.{bounds_counted}
use Rattle.wcet.proofs.chain_tests.systems.system_of.Goals as goal

pub bounds-requires : goal.bounds-requires
bounds-requires g c =
    places_of c.in_ok-graph.graph c.in_ok-nest.nest c.in_ok-graph.ensures.numbers c.in_ok-nest.ensures.nest

pub system-requires-clause-nest : goal.system-requires-clause-nest
system-requires-clause-nest g c =
    nest_shape c.in_ok-graph.graph c.in_ok-graph.ensures.numbers c.in_ok-nest.nest c.in_ok-nest.ensures.nest

pub system-requires-clause-bounds : goal.system-requires-clause-bounds
system-requires-clause-bounds g c =
    bounds_counted c.in_ok-graph.graph c.in_ok-nest.nest _ c.in_ok-bounds.bounds c.in_ok-bounds.ensures.bounds
