use Rattle.std.proofs.Common.{◌≡◌, ◌≤◌, ◌++◌, length, map, vec_capacity}
use Rattle.std.specs.Vec.Iter.{into_iter_items, into_iter_len}
use Rattle.wc_flight.specs.Openings.{shown}
use Rattle.wc_flight.proofs.preparing.show_all.Given as goal

abbrev pub invariant-loop-pass : goal.invariant-loop-pass
invariant-loop-pass l =
    (goal.iterator-loop-pass).can_next l.pass-iterator × (goal.iterator-loop-pass).is_finite l.pass-iterator
    × (l.pen ≡ l.fn.pen)
    × (l.yielded ++ into_iter_items l.pass-iterator ≡ l.fn.passes.items)
    × (into_iter_len l.pass-iterator ≡ length (into_iter_items l.pass-iterator))
    × (l.ready.items ≡ map (shown l.fn.pen.seen) l.yielded)
    × (length l.fn.passes.items ≤ vec_capacity l.ready)
