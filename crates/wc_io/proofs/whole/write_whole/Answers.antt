use Rattle.std.proofs.Common.{arith, ◌∙◌}
use Rattle.wc_io.proofs.WritingLemmas.{Appends_next, next_within, rest_whole}
use Rattle.wc_io.proofs.whole.write_whole.Goals as goal

pub loop-done-preserved : goal.loop-done-preserved
loop-done-preserved g c =
    let whole = rest_whole c.args.text.now c.loop-done.done in
    record {
      within = next_within _ _ _ _ whole c.loop-done.invariant.within c.in-Ok.ensures.bound.1;
      written = Appends_next _ _ _ _ _ _ _ whole c.loop-done.invariant.written c.in-Ok.ensures.bytes;
      later = omega (arith, c.in-Ok.ensures.cause.later, c.loop-done.invariant.later);
      place = c.in-Ok.ensures.place ∙ c.loop-done.invariant.place;
    }
