use Rattle.wc_nestsolve.proofs.ClassLemmas.{join_on, rank_less}
use Rattle.wc_nestsolve.proofs.classes.join.Goals as goal

pub loop-at-smaller : goal.loop-at-smaller
loop-at-smaller c = rank_less c.args.nest.now c.requires.solvable.parents c.in-Some.place _ _ _ c.items-in-Some.ensures c.in-Some.is c.loop-at.invariant.1

pub loop-at-preserved : goal.loop-at-preserved
loop-at-preserved c =
    join_on c.args.nest.now c.requires.solvable.parents _ _ _ _ _ c.in-Some.place _ _ _ c.items-in-Some.ensures c.in-Some.is c.requires.counted c.loop-at.invariant.0 c.loop-at.invariant.1 c.in_ok-push_to.ensures
