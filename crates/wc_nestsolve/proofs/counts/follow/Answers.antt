use Rattle.std.proofs.Common.{◌-◌, ◌+◌, ◌<◌, ◌++◌, Some, sym, ap, subst, ◌∙◌, rules}
use Rattle.std.specs.Prelude.{IfSome}
use Rattle.wc_nestsolve.specs.Inner.Tables.{found_at}
use Rattle.wc_nestsolve.specs.Inner.Trails.{walk_from}
use Rattle.wc_nestsolve.proofs.AddLemmas.{follow_ends, follow_last, follow_on, follow_stops}
use Rattle.wc_nestsolve.proofs.RaiseLemmas.{none_from}
use Rattle.wc_nestsolve.proofs.counts.follow.Goals as goal

pub returns-in_default : goal.returns-in_default
returns-in_default c =
    follow_stops c.args.system.now c.args.nest.now c.args.best.now c.args.most c.loop-step._step c.args.start c.loop-step.at c.loop-step.walk.items c.loop-step.invariant.0
    (none_from (found_at c.args.best.now c.loop-step.at) c.in_default.not-Some)

pub returns-in-None : goal.returns-in-None
returns-in-None c =
    c.in_ok-push.ensures.items
    ∙ follow_last c.args.system.now c.args.nest.now c.args.best.now c.args.most c.loop-step._step c.args.start c.loop-step.at c.loop-step.walk.items c.loop-step.invariant.0
    c.in-Some.found c.loop-step-test.true (search rules) (sym c.next.ensures.next ∙ c.in-None.is)

pub returns : goal.returns
returns c =
    follow_ends c.args.system.now c.args.nest.now c.args.best.now c.args.most c.loop-step._step c.args.start c.loop-step.at c.loop-step.walk.items c.loop-step.invariant.0 (search rules)

pub loop-step-preserved : goal.loop-step-preserved
loop-step-preserved c = (
  ap (λ w. w ++ walk_from c.args.system.now c.args.nest.now c.args.best.now (c.args.most - (c.loop-step._step + 1)) (Some c.in-Some-next.target)) c.in_ok-push.ensures.items
      ∙ follow_on c.args.system.now c.args.nest.now c.args.best.now c.args.most c.loop-step._step c.args.start c.loop-step.at c.loop-step.walk.items c.loop-step.invariant.0
      c.in-Some.found c.loop-step-test.true (search rules) c.in-Some-next.target (sym c.next.ensures.next ∙ c.in-Some-next.is),
  subst (λ o. IfSome o (λ q. q < c.args.system.now.nodes)) c.in-Some-next.is c.next.ensures.known,
)
