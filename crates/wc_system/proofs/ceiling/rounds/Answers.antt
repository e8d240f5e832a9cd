use Rattle.std.proofs.Common.{◌+◌, ◌*◌, rules, ap, ◌∙◌, get_or, None}
use Rattle.std.proofs.lemmas.Option.{slice_get-get_or}
use Rattle.std.specs.Prelude.{slice_index}
use Rattle.wc_model.specs.declared.graphs.Head.{Head}
use Rattle.wc_system.specs.Inner.Capped.{capped, rounds_within}
use Rattle.wc_system.proofs.CeilingLemmas.{rounds_next}
use Rattle.wc_system.proofs.ceiling.rounds.Goals as goal

pub loop-place-preserved : goal.loop-place-preserved
loop-place-preserved c =
    let none : Head = record { node = 0; parent = None } in
    let h : Head = get_or c.args.heads.now c.loop-place.place none in
    let at = slice_get-get_or c.args.heads.now c.loop-place.place none c.loop-place-test.true in
    let last = c.capped_product.ensures
    ∙ ap (λ n. capped ((slice_index c.args.bounds.now c.loop-place.place + 1) * n)) (c.outer_rounds-outer.ensures h at ∙ ap (λ rs. rounds_within rs h.parent) c.as_slice.ensures.value) in
    let next = rounds_next c.args.heads.now c.requires.parents c.args.bounds.now c.loop-place.place c.loop-place.rounds.items c.capped_product.result h at
    c.loop-place.invariant.counted c.loop-place.invariant.so_far last in
    record { counted = search rules; so_far = rw c.in_ok-push.ensures.items next }
