use Rattle.std.proofs.Common.{◌+◌, ap, ◌∙◌, arith}
use Rattle.wc_system.specs.Inner.Contexts.{position_in}
use Rattle.wc_system.proofs.TermLemmas.{none_before, none_after}
use Rattle.wc_system.proofs.terms.times_at.Goals as goal

pub loop-place-init : goal.loop-place-init
loop-place-init c = record {
  inside = c.first_at-place.ensures.inside;
  small = omega arith;
  from = c.first_at-place.ensures.first.1;
  to_come = omega (arith, none_before (position_in c.args.contexts.now c.args.node.now) c.args.visits.now c.first_at-place.result c.first_at-place.ensures.inside c.first_at-place.ensures.first.0);
}

pub returns-else-visits-place-clause-times : goal.returns-else-visits-place-clause-times
returns-else-visits-place-clause-times c =
    omega (
      arith,
      c.loop-place.invariant.to_come,
      none_after (position_in c.args.contexts.now c.args.node.now) c.args.visits.now c.loop-place.place _ c.requires.sorted c.loop-place-test.true c.loop-place.invariant.from c.if-visits-place.false,
    )
