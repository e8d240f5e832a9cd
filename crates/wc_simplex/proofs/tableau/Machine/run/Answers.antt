use Rattle.std.proofs.Common.{arith}
use Rattle.wc_simplex.proofs.PhaseLemmas.{finished_ends, goes_on, keeps_trans, lost_ends, many_ends, out_ends, wide_ends}
use Rattle.wc_simplex.proofs.tableau.Machine.run.Goals as goal

pub returns-in-Finished-clause-ending : goal.returns-in-Finished-clause-ending
returns-in-Finished-clause-ending c =
    let i = c.loop-place.invariant in
    finished_ends c.args.first c.loop-place.left c.args.self.now c.loop-place.self _ i.1 i.2 c.in-Finished.ensures.choice

pub returns-in-TooWide-clause-ending : goal.returns-in-TooWide-clause-ending
returns-in-TooWide-clause-ending c =
    let i = c.loop-place.invariant in
    wide_ends c.args.first c.loop-place.left c.args.self.now c.loop-place.self _ i.1 i.2 c.in-TooWide.ensures.choice

pub returns-in-NoRow-clause-ending : goal.returns-in-NoRow-clause-ending
returns-in-NoRow-clause-ending c =
    let i = c.loop-place.invariant in
    lost_ends c.args.first c.loop-place.left c.args.self.now c.loop-place.self _ i.1 i.2 c.in-NoRow.field-0 c.in-NoRow.ensures.choice

pub returns-then-left-eq0-clause-ending : goal.returns-then-left-eq0-clause-ending
returns-then-left-eq0-clause-ending c =
    let i = c.loop-place.invariant in
    many_ends c.args.first c.loop-place.left c.args.self.now c.loop-place.self _ i.1 i.2 c.in-Pivots.place c.in-Pivots.column
    c.if-left-eq0.true c.in-Pivots.ensures.choice

pub returns-in-None-clause-ending : goal.returns-in-None-clause-ending
returns-in-None-clause-ending c =
    let i = c.loop-place.invariant in
    out_ends c.args.first c.loop-place.left c.args.self.now c.loop-place.self _ i.1 i.2 c.in-Pivots.place c.in-Pivots.column
    c.pivot.new.self c.in_ok-pivot-in-Pivots.field-0 c.if-left-eq0.false c.in-Pivots.ensures.choice c.in_ok-pivot-in-Pivots.ensures.pivoted c.in-None.is

pub loop-place-preserved : goal.loop-place-preserved
loop-place-preserved c =
    let i = c.loop-place.invariant in
    let e = c.in_ok-pivot-in-Pivots.ensures in (
      e.regular,
      keeps_trans c.args.self.now c.loop-place.self c.pivot.new.self i.1 e.shape,
      goes_on c.args.first c.loop-place.left c.args.self.now c.loop-place.self _ i.1 i.2 c.in-Pivots.place c.in-Pivots.column
          c.pivot.new.self c.in_ok-pivot-in-Pivots.field-0 _ c.if-left-eq0.false c.in-Pivots.ensures.choice e.pivoted c.in-Some.is,
    )
