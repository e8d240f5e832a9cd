use Rattle.std.proofs.Common.{refl, sym, ◌∙◌}
use Rattle.wc_bounds.proofs.TallyLemmas.{places_of}
use Rattle.wc_nestsolve.proofs.ShapeLemmas.{nest_shape}
use Rattle.wcet.specs.Chained.{given}
use Rattle.wcet.proofs.ChainLemmas.{bounds_counted, has_bound, no_bounds, no_function, no_graph, no_nest, no_solution, no_system, passed_on, solution_holds, system_in, system_result}
use Rattle.wcet.proofs.chain.analyse.Goals as goal

pub returns-in-Err : goal.returns-in-Err
returns-in-Err g c =
    no_function (given c.args.image.now c.args.facts.now c.args.hardware.now) c.args.name.now c.in-Err.fault (sym c.find.ensures ∙ c.in-Err.is)

pub returns-in_err-graph : goal.returns-in_err-graph
returns-in_err-graph g c =
    passed_on (given c.args.image.now c.args.facts.now c.args.hardware.now) c.args.name.now c.from_residual.result c.in_err-graph.field-0.0 c.from_residual.ensures.1
    (no_graph (given c.args.image.now c.args.facts.now c.args.hardware.now) c.args.name.now c.in-Ok.entry c.in_err-graph.field-0.0 (sym c.find.ensures ∙ c.in-Ok.is) c.in_err-graph.ensures.graph)

pub returns-in_err-nest : goal.returns-in_err-nest
returns-in_err-nest g c =
    passed_on (given c.args.image.now c.args.facts.now c.args.hardware.now) c.args.name.now c.from_residual-in_err-nest.result c.in_err-nest.field-0.0 c.from_residual-in_err-nest.ensures.1
    (no_nest (given c.args.image.now c.args.facts.now c.args.hardware.now) c.args.name.now c.in-Ok.entry c.in_ok-graph.graph (sym c.find.ensures ∙ c.in-Ok.is) c.in_ok-graph.ensures.graph c.in_err-nest.field-0.0 c.in_err-nest.ensures.fault)

pub bounds-requires : goal.bounds-requires
bounds-requires g c =
    places_of c.in_ok-graph.graph c.in_ok-nest.nest c.in_ok-graph.ensures.numbers c.in_ok-nest.ensures.nest

pub returns-in_err-bounds : goal.returns-in_err-bounds
returns-in_err-bounds g c =
    passed_on (given c.args.image.now c.args.facts.now c.args.hardware.now) c.args.name.now c.from_residual-in_err-bounds.result c.in_err-bounds.field-0.0 c.from_residual-in_err-bounds.ensures.1
    (no_bounds (given c.args.image.now c.args.facts.now c.args.hardware.now) c.args.name.now c.in-Ok.entry c.in_ok-graph.graph (sym c.find.ensures ∙ c.in-Ok.is) c.in_ok-graph.ensures.graph c.in_ok-nest.nest c.in_ok-nest.ensures.nest c.in_err-bounds.field-0.0 c.in_err-bounds.ensures.fault)

pub system-requires-clause-nest : goal.system-requires-clause-nest
system-requires-clause-nest g c =
    nest_shape c.in_ok-graph.graph c.in_ok-graph.ensures.numbers c.in_ok-nest.nest c.in_ok-nest.ensures.nest

pub system-requires-clause-bounds : goal.system-requires-clause-bounds
system-requires-clause-bounds g c =
    bounds_counted c.in_ok-graph.graph c.in_ok-nest.nest _ c.in_ok-bounds.bounds c.in_ok-bounds.ensures.bounds

pub returns-in_err-system : goal.returns-in_err-system
returns-in_err-system g c =
    passed_on (given c.args.image.now c.args.facts.now c.args.hardware.now) c.args.name.now c.from_residual-in_err-system.result c.in_err-system.field-0.0 c.from_residual-in_err-system.ensures.1
    (no_system (given c.args.image.now c.args.facts.now c.args.hardware.now) c.args.name.now c.in-Ok.entry c.in_ok-graph.graph (sym c.find.ensures ∙ c.in-Ok.is) c.in_ok-graph.ensures.graph c.in_ok-nest.nest c.in_ok-nest.ensures.nest c.in_ok-bounds.bounds c.in_ok-bounds.ensures.bounds c.in_ok-costs.costs c.in_ok-costs.ensures c.in_err-system.field-0.0 (c.in_err-system.ensures.answer (given c.args.image.now c.args.facts.now c.args.hardware.now) refl))

pub solution_of-requires-clause-system : goal.solution_of-requires-clause-system
solution_of-requires-clause-system g c =
    system_in (given c.args.image.now c.args.facts.now c.args.hardware.now) c.args.name.now c.in-Ok.entry c.in_ok-graph.graph (sym c.find.ensures ∙ c.in-Ok.is) c.in_ok-graph.ensures.graph c.in_ok-nest.nest c.in_ok-nest.ensures.nest c.in_ok-bounds.bounds c.in_ok-bounds.ensures.bounds c.in_ok-costs.costs c.in_ok-costs.ensures c.in_ok-system.system (c.in_ok-system.ensures.answer (given c.args.image.now c.args.facts.now c.args.hardware.now) refl)

pub solution_of-requires-clause-below : goal.solution_of-requires-clause-below
solution_of-requires-clause-below g c =
    (system_result (given c.args.image.now c.args.facts.now c.args.hardware.now) c.in_ok-graph.graph c.in_ok-nest.nest c.in_ok-bounds.bounds c.in_ok-costs.costs c.in_ok-system.system (c.in_ok-system.ensures.answer (given c.args.image.now c.args.facts.now c.args.hardware.now) refl)).below

pub solution_of-requires-clause-fits : goal.solution_of-requires-clause-fits
solution_of-requires-clause-fits g c =
    (system_result (given c.args.image.now c.args.facts.now c.args.hardware.now) c.in_ok-graph.graph c.in_ok-nest.nest c.in_ok-bounds.bounds c.in_ok-costs.costs c.in_ok-system.system (c.in_ok-system.ensures.answer (given c.args.image.now c.args.facts.now c.args.hardware.now) refl)).fits_in

pub returns-in_err-solution : goal.returns-in_err-solution
returns-in_err-solution g c =
    passed_on (given c.args.image.now c.args.facts.now c.args.hardware.now) c.args.name.now c.from_residual-in_err-solution.result c.in_err-solution.field-0.0 c.from_residual-in_err-solution.ensures.1
    (no_solution (given c.args.image.now c.args.facts.now c.args.hardware.now) c.args.name.now c.in-Ok.entry c.in_ok-graph.graph (sym c.find.ensures ∙ c.in-Ok.is) c.in_ok-graph.ensures.graph c.in_ok-nest.nest c.in_ok-nest.ensures.nest c.in_ok-bounds.bounds c.in_ok-bounds.ensures.bounds c.in_ok-costs.costs c.in_ok-costs.ensures c.in_ok-system.system (c.in_ok-system.ensures.answer (given c.args.image.now c.args.facts.now c.args.hardware.now) refl) c.in_err-solution.field-0.0 c.in_err-solution.ensures)

pub bound_of-requires : goal.bound_of-requires
bound_of-requires g c =
    solution_holds c.in_ok-system.system c.in_ok-solution.solution c.in_ok-solution.ensures

pub returns : goal.returns
returns g c =
    has_bound (given c.args.image.now c.args.facts.now c.args.hardware.now) c.args.name.now c.in-Ok.entry c.in_ok-graph.graph (sym c.find.ensures ∙ c.in-Ok.is) c.in_ok-graph.ensures.graph c.in_ok-nest.nest c.in_ok-nest.ensures.nest c.in_ok-bounds.bounds c.in_ok-bounds.ensures.bounds c.in_ok-costs.costs c.in_ok-costs.ensures c.in_ok-system.system (c.in_ok-system.ensures.answer (given c.args.image.now c.args.facts.now c.args.hardware.now) refl) c.in_ok-solution.solution c.bound_of.result c.in_ok-solution.ensures c.bound_of.ensures
