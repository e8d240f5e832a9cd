use Rattle.std.proofs.Common.{suc, ◌≡◌, length, rules}
use Rattle.wc_nest.proofs.NestLemmas.{whole}
use Rattle.wc_nest.proofs.NestingLemmas.{no_step}
use Rattle.wc_nest.proofs.graph_nest.find_nest.Goals as goal

pub loop-alloc-init : goal.loop-alloc-init
loop-alloc-init c = (0, c.in_ok-nesting.ensures c.in_ok-level.level c.in_ok-level.ensures)

pub loop-alloc-preserved : goal.loop-alloc-preserved
loop-alloc-preserved c =
    let was = c.loop-alloc.invariant in
    let next = rw c.in-Inner.is at (c.in_ok-inner.ensures was.0 was.1) in
    (suc was.0, next.0)

pub loop-alloc-smaller : goal.loop-alloc-smaller
loop-alloc-smaller c =
    let was = c.loop-alloc.invariant in
    let next = rw c.in-Inner.is at (c.in_ok-inner.ensures was.0 was.1) in
    next.1

pub returns-in-Second : goal.returns-in-Second
returns-in-Second c =
    let was = c.loop-alloc.invariant in
    rw c.in-Second.is at (c.in_ok-inner.ensures was.0 was.1)

pub returns : goal.returns
returns c =
    let was = c.loop-alloc.invariant in
    let none : length c.loop-alloc.level.ways.items ≡ 0 = search rules in
    rw (c.new.ensures, c.new-2.ensures, c.new-3.ensures) (whole c.args.graph.now was.0 _ was.1.below (no_step c.args.graph.now c.requires was.0 c.loop-alloc.level was.1.level_is none))
