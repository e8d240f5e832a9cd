use Rattle.std.proofs.Common.{rules, refl}
use Rattle.wc_nestsolve.proofs.GivenLemmas.{below_from, given_from, unlimited_from, with_facts}
use Rattle.wc_nestsolve.proofs.ShapeLemmas.{nest_shape}
use Rattle.wc_nestsolve.proofs.tests.optimum.Goals as goal

pub system-requires-clause-nest : goal.system-requires-clause-nest
system-requires-clause-nest c = nest_shape _ c.in_ok-graph.ensures.graph _ c.in-Ok.ensures.nest

pub solve-requires-clause-system : goal.solve-requires-clause-system
solve-requires-clause-system c = given_from _ _ _ _ _ _ (c.in-Ok-system.ensures.answer (with_facts _) refl) (search rules) (search rules)

pub solve-requires-clause-below : goal.solve-requires-clause-below
solve-requires-clause-below c = below_from _ _ _ _ _ _ (c.in-Ok-system.ensures.answer (with_facts _) refl)

pub solve-requires-clause-unlimited : goal.solve-requires-clause-unlimited
solve-requires-clause-unlimited c = unlimited_from _ _ _ _ _ _ (c.in-Ok-system.ensures.answer (with_facts _) refl) (search rules)
