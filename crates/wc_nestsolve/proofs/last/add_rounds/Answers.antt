use Rattle.std.proofs.Common.{◌≡◌, ◌*◌, ◌<◌, ◌^◌, All, length, slice_index, sym, ap, subst, ◌∙◌, arith, lit<}
use Rattle.std.specs.List.{sum_by}
use Rattle.wc_model.specs.Flow.Places.{IsOnce}
use Rattle.wc_nestsolve.specs.Inner.Adding.{entered_times}
use Rattle.wc_nestsolve.proofs.AddingLemmas.{added_is, entries_fit, rooms, rounds_added, times_small, walk_once, walk_places, walkable, way_is}
use Rattle.wc_nestsolve.proofs.last.add_rounds.Goals as goal

pub entered-entries-requires-clause-room : goal.entered-entries-requires-clause-room
entered-entries-requires-clause-room c =
    subst (λ xs. sum_by (slice_index xs) c.loop_at-own.result.now.entry < 2 ^ 127) (sym c.as_slice.ensures.value) (entries_fit _ _ _ c.requires.ways _ _ _ c.requires.table _ _ c.requires.some.1 _ c.loop_at-own.ensures)

pub follow-requires-clause-walkable : goal.follow-requires-clause-walkable
follow-requires-clause-walkable c = walkable _ _ _ c.requires.ways _ _ _ c.requires.table c.requires.some.0 _ c.requires.some.1

pub overflow_mul-own : goal.overflow_mul-own
overflow_mul-own c =
    let own = c.loop_at-own.result.now in
    let times : own.bound * c.entered-entries.result ≡ own.bound * entered_times own c.args.system.now.start c.args.x.now.items = ap (λ n. own.bound * n) (c.entered-entries.ensures ∙ ap (entered_times own c.args.system.now.start) c.as_slice.ensures.value) in
    let big : 2 ^ 100 < 2 ^ 128 = lit< tt in
    omega (arith, big, times, times_small _ _ _ c.requires.ways _ _ _ c.requires.table _ _ c.requires.some.1 _ c.loop_at-own.ensures)

pub add-requires-clause-known : goal.add-requires-clause-known
add-requires-clause-known c =
    subst (All (λ i. i < length c.args.x.now.items)) (sym c.as_slice-2.ensures.value)
    (walk_places _ _ _ c.requires.ways _ _ _ c.requires.table _ _ c.requires.some.1 c.requires.worth _ (way_is _ _ _ c.requires.ways _ _ _ c.requires.table _ _ c.requires.some.1 _ c.loop_at-own.ensures _ _ c.class_at-class.ensures c.in_ok-walk.ensures))

pub add-requires-clause-once : goal.add-requires-clause-once
add-requires-clause-once c =
    subst IsOnce (sym c.as_slice-2.ensures.value)
    (walk_once _ _ _ c.requires.ways _ _ _ c.requires.table _ _ c.requires.some.1 c.requires.worth _ (way_is _ _ _ c.requires.ways _ _ _ c.requires.table _ _ c.requires.some.1 _ c.loop_at-own.ensures _ _ c.class_at-class.ensures c.in_ok-walk.ensures))

pub add-requires-clause-room : goal.add-requires-clause-room
add-requires-clause-room c =
    let own = c.loop_at-own.result.now in
    rooms _ _ _ c.requires.ways _ _ _ c.requires.table _ _ c.requires.some.1 _ c.loop_at-own.ensures _
    (ap (λ n. own.bound * n) (c.entered-entries.ensures ∙ ap (entered_times own c.args.system.now.start) c.as_slice.ensures.value))

pub returns : goal.returns
returns c =
    let own = c.loop_at-own.result.now in
    λ value old.
    rounds_added _ _ _ c.requires.ways _ _ _ c.requires.table value _ old c.requires.worth _ _
    (c.as_slice-2.ensures.value ∙ way_is _ _ _ c.requires.ways _ _ _ c.requires.table _ _ old _ c.loop_at-own.ensures _ _ c.class_at-class.ensures c.in_ok-walk.ensures)
    (added_is _ _ _ c.requires.ways _ _ _ c.requires.table _ _ old _ c.loop_at-own.ensures _ _ _
    (ap (λ n. own.bound * n) (c.entered-entries.ensures ∙ ap (entered_times own c.args.system.now.start) c.as_slice.ensures.value)) c.add.ensures)
