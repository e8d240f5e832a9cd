use Rattle.std.proofs.Common.{refl, arith}
use Rattle.wc_fix.specs.Inner.Fixing.{Problem}
use Rattle.wc_fix.proofs.SolutionLemmas.{fixing_begins, fixing_ends, less_left, ready}
use Rattle.wc_fix.proofs.most_precise.solve_steps.Goals as goal

pub loop-node-init : goal.loop-node-init
loop-node-init g c =
    let x = g.L.Lattice in
    let laws = g.met.L.Lattice in
    let problem : Problem g.row.L.Denot = record { nodes = c.args.nodes; steps = c.args.steps.now; access = c.args.access.now; start = c.args.start; first = c.args.first } in
    let e = c.in_ok-fixing.ensures in
    rw (e.states, e.waiting) (fixing_begins x laws.precise_refl laws.precise_trans laws.access_keeps problem c.requires.start)

pub visit-requires : goal.visit-requires
visit-requires g c =
    let x = g.L.Lattice in
    let laws = g.met.L.Lattice in
    let problem : Problem g.row.L.Denot = record { nodes = c.args.nodes; steps = c.args.steps.now; access = c.args.access.now; start = c.args.start; first = c.args.first } in
    ready x laws.precise_refl laws.precise_trans laws.access_keeps problem c.loop-node.fixing.states.items c.loop-node.fixing.waiting c.next.new.self c.in-Some.node c.steps_from-own.result.now
    c.loop-node.invariant c.in-Some.ensures c.steps_from-own.ensures c.requires.steps.targets c.requires.count c.requires.lines

pub loop-node-preserved : goal.loop-node-preserved
loop-node-preserved g c =
    let problem : Problem g.row.L.Denot = record { nodes = c.args.nodes; steps = c.args.steps.now; access = c.args.access.now; start = c.args.start; first = c.args.first } in
    c.in_ok-visit.ensures.kept problem c.loop-node.fixing.waiting (record { leave = c.steps_from-own.ensures; fetches = refl }) c.in-Some.ensures c.loop-node.invariant

pub loop-node-smaller : goal.loop-node-smaller
loop-node-smaller g c =
    let x = g.L.Lattice in
    let laws = g.met.L.Lattice in
    omega (arith, c.in_ok-visit.ensures.work, less_left x laws.precise_refl laws.precise_trans laws.access_keeps c.loop-node.fixing.states.items c.loop-node.fixing.waiting c.next.new.self c.in-Some.node c.in-Some.ensures)

pub returns : goal.returns
returns g c =
    let x = g.L.Lattice in
    let laws = g.met.L.Lattice in
    let problem : Problem g.row.L.Denot = record { nodes = c.args.nodes; steps = c.args.steps.now; access = c.args.access.now; start = c.args.start; first = c.args.first } in
    fixing_ends x laws.precise_refl laws.precise_trans laws.access_keeps problem c.loop-node.fixing.states.items c.loop-node.fixing.waiting c.loop-node.invariant
    c.in_default.ensures.1
    c.requires.reached c.requires.start c.requires.steps.sources
