use Rattle.std.proofs.Common.{ℕ, ◌<◌, List, length, get_or, arith}
use Rattle.std.proofs.lemmas.Option.{slice_get-get_or}
use Rattle.wc_graph.specs.declared.frames.Place.{Place}
use Rattle.wc_graph.specs.Inner.Ordered.{place_at}
use Rattle.wc_graph.proofs.SpreadLemmas.{at_has}
use Rattle.wc_graph.proofs.assembly.nodes.Goals as goal

pub bounds-places-number : goal.bounds-places-number
bounds-places-number c = c.requires.inside (get_or c.args.order.now c.loop-number.number-index 0) (at_has c.args.order.now c.loop-number.number-index 0 (omega arith))

pub bounds-ranks-place : goal.bounds-ranks-place
bounds-ranks-place c =
    let places : List Place = c.args.places.now in
    let n : ℕ = get_or c.args.order.now c.loop-number.number-index 0 in
    let inside : n < length places = c.requires.inside n (at_has c.args.order.now c.loop-number.number-index 0 (omega arith)) in
    c.requires.ranks n (place_at places n) (slice_get-get_or places n (record { frame = 0; pc = 0 }) inside)
