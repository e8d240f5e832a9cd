use Rattle.std.proofs.Common.{ℕ, ◌<◌, length, get_or, arith}
use Rattle.wc_graph.proofs.FamilyLemmas.{parent_inside}
use Rattle.wc_graph.proofs.SpreadLemmas.{at_has}
use Rattle.wc_graph.proofs.assembly.contexts.Goals as goal

pub bounds-frames-number : goal.bounds-frames-number
bounds-frames-number c = c.requires.inside (get_or c.args.listed.now c.loop-number.number-index 0) (at_has c.args.listed.now c.loop-number.number-index 0 (omega arith))

pub rank_below-requires : goal.rank_below-requires
rank_below-requires c =
    let n : ℕ = get_or c.args.listed.now c.loop-number.number-index 0 in
    let inside : n < length c.args.frames.now = c.requires.inside n (at_has c.args.listed.now c.loop-number.number-index 0 (omega arith)) in
    parent_inside c.args.frames.now n (length c.args.ranks.now) c.requires.frames inside c.requires.count
