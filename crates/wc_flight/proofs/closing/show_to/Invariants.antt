use Rattle.std.proofs.Common.{◌≡◌, ◌++◌, length}
use Rattle.std.specs.List.{All}
use Rattle.std.specs.Vec.Iter.{into_iter_items, into_iter_len}
use Rattle.wc_flight.specs.Closing.{IsWhole}
use Rattle.wc_flight.proofs.closing.show_to.Given as goal

abbrev pub invariant-loop-pass : goal.invariant-loop-pass
invariant-loop-pass l =
    (goal.iterator-loop-pass).can_next l.pass-iterator × (goal.iterator-loop-pass).is_finite l.pass-iterator
    × (l.pen ≡ l.fn.pen)
    × (l.yielded ++ into_iter_items l.pass-iterator ≡ l.fn.passes.items)
    × (into_iter_len l.pass-iterator ≡ length (into_iter_items l.pass-iterator))
    × All (IsWhole l.fn.pen.seen) l.yielded
