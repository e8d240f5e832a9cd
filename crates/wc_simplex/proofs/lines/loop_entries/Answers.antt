use Rattle.std.proofs.Common.{[], false, get_or, rules}
use Rattle.wc_simplex.specs.Inner.Lines.{loop_entry}
use Rattle.wc_simplex.proofs.HalfLemmas.{pushed_range}
use Rattle.wc_simplex.proofs.lines.loop_entries.Goals as goal

pub loop-place-preserved : goal.loop-place-preserved
loop-place-preserved c =
    rw c.in_ok-push.ensures.items
    (pushed_range (λ i. loop_entry (get_or c.args.back.now i false) (get_or c.args.entry.now i false) c.args.bound) [] c.loop-place.entries.items c.loop-place.place
    c.loop_entry.result c.loop-place.invariant (search rules) c.loop_entry.ensures)
