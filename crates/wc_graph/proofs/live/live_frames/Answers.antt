use Rattle.std.proofs.Common.{ℕ, ◌<◌, Bool, false, List, get_or, ◌∙◌, arith}
use Rattle.std.proofs.lemmas.Option.{slice_get-get_or}
use Rattle.wc_graph.specs.declared.frames.Place.{Place}
use Rattle.wc_graph.specs.Inner.Ordered.{place_at}
use Rattle.wc_graph.proofs.MarkLemmas.{frames_begin, frames_more}
use Rattle.wc_graph.proofs.live.live_frames.Goals as goal

pub loop-number-init : goal.loop-number-init
loop-number-init c = record { are = frames_begin c.args.count c.args.places.now c.args.live.now c.in_ok-marked.marked c.in_ok-marked.ensures; count = c.in_ok-marked.ensures.counted }

pub mark_if-requires : goal.mark_if-requires
mark_if-requires c =
    let places : List Place = c.args.places.now in
    let n : ℕ = c.loop-number.number in
    let inside : (place_at places n).frame < c.args.count = c.requires.inside n (place_at places n) (slice_get-get_or places n (record { frame = 0; pc = 0 }) (omega arith)) in
    omega (arith, inside, c.loop-number.invariant.count)

pub loop-number-preserved : goal.loop-number-preserved
loop-number-preserved c =
    let live : List Bool = c.args.live.now in
    let n : ℕ = c.loop-number.number in
    record {
      are = frames_more c.args.count c.args.places.now live n (get_or live n false) c.loop-number.marked c.mark_if.new.self (slice_get-get_or live n false (omega (arith, c.requires.live))) c.loop-number.invariant.are c.in_ok-mark_if.ensures.marks c.in_ok-mark_if.ensures.same;
      count = c.in_ok-mark_if.ensures.count ∙ c.loop-number.invariant.count;
    }
