use Rattle.std.proofs.Common.{◌≡◌, []}
use Rattle.wc_model.specs.Workspace.Phases.{whole}
use Rattle.wc_works.proofs.SolvingLemmas.{no_items, some_items, solvable}
use Rattle.wc_works.proofs.optimum.solution_of.Goals as goal

pub returns-in_ok-solve : goal.returns-in_ok-solve
returns-in_ok-solve c =
    let none : c.args.system.now.limits ≡ [] = no_items c.args.system.now.limits c.items.result.now c.items.ensures c.if-is_empty.ensures in
    whole c.in_ok-solve.field-0 none c.in_ok-solve.ensures.holds c.in_ok-solve.ensures.whole

pub solve_limited-requires-clause-limited : goal.solve_limited-requires-clause-limited
solve_limited-requires-clause-limited c = some_items c.args.system.now.limits c.items.result.now c.items.ensures c.if-is_empty.ensures

pub solve_limited-requires-clause-solvable : goal.solve_limited-requires-clause-solvable
solve_limited-requires-clause-solvable c =
    solvable c.args.graph.now c.args.nest.now c.args.system.now c.requires.graph c.requires.nest c.requires.system c.requires.sound c.requires.below c.requires.fits
    (some_items c.args.system.now.limits c.items.result.now c.items.ensures c.if-is_empty.ensures)
