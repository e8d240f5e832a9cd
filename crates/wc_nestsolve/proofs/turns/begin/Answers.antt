use Rattle.std.proofs.Common.{rules, ◌≡◌, ◌<◌, All, None, Some, length, map, replicate, slice_index, pos, sym, ap, subst, ◌∙◌}
use Rattle.std.proofs.lemmas.List.{length-replicate}
use Rattle.wc_model.specs.Flow.Places.{IsOnce}
use Rattle.wc_nestsolve.specs.Inner.Adding.{AreWalkable, IsAdded}
use Rattle.wc_nestsolve.specs.Inner.Potentials.{potential_of}
use Rattle.wc_nestsolve.specs.Inner.Raising.{AreBelow}
use Rattle.wc_nestsolve.specs.Inner.Tables.{AreFillable, IsFilled}
use Rattle.wc_nestsolve.specs.Inner.Trails.{walk_from}
use Rattle.wc_nestsolve.proofs.BeginLemmas.{zero_at}
use Rattle.wc_nestsolve.proofs.FirstLemmas.{first_below, first_counts, first_once, first_places, first_potentials, first_walkable, way}
use Rattle.wc_nestsolve.proofs.PassLemmas.{order_fillable}
use Rattle.wc_nestsolve.proofs.turns.begin.Goals as goal

pub fill-requires-clause-nodes : goal.fill-requires-clause-nodes
fill-requires-clause-nodes c = subst (AreFillable c.args.system.now c.args.nest.now c.args.extra.now) (sym c.as_slice-order.ensures.value) (order_fillable _ _ _ c.requires.ways _ _ c.requires.rounds)

pub first_potentials-requires : goal.first_potentials-requires
first_potentials-requires c =
    let filled = subst (λ xs. IsFilled c.args.system.now c.args.nest.now None c.args.extra.now xs (length xs) c.fill.new.best.items) c.as_slice-order.ensures.value c.fill.ensures in
    subst AreBelow (sym c.as_slice.ensures.value) (first_below _ _ _ c.requires.ways _ _ c.requires.rounds _ filled)

pub follow-requires-clause-walkable : goal.follow-requires-clause-walkable
follow-requires-clause-walkable c =
    let filled = subst (λ xs. IsFilled c.args.system.now c.args.nest.now None c.args.extra.now xs (length xs) c.fill.new.best.items) c.as_slice-order.ensures.value c.fill.ensures in
    subst (AreWalkable c.args.system.now c.args.nest.now) (sym c.as_slice-2.ensures.value) (first_walkable _ _ _ c.requires.ways _ _ c.requires.rounds _ filled)

pub add-requires-clause-known : goal.add-requires-clause-known
add-requires-clause-known c =
    let filled = subst (λ xs. IsFilled c.args.system.now c.args.nest.now None c.args.extra.now xs (length xs) c.fill.new.best.items) c.as_slice-order.ensures.value c.fill.ensures in
    let walk = c.in_ok-walk.ensures ∙ ap (λ b. walk_from c.args.system.now c.args.nest.now b c.args.system.now.nodes (Some c.args.system.now.start)) c.as_slice-2.ensures.value in
    let zeros : c.in_ok-x.x.items ≡ replicate (length c.args.system.now.steps) 0 = search rules in
    subst (λ n. All (λ i. i < n) c.as_slice-3.result.now) (sym (ap length zeros ∙ length-replicate (length c.args.system.now.steps) 0))
    (subst (All (λ i. i < length c.args.system.now.steps)) (sym c.as_slice-3.ensures.value) (first_places _ _ _ c.requires.ways _ _ c.requires.rounds _ filled _ walk))

pub add-requires-clause-once : goal.add-requires-clause-once
add-requires-clause-once c =
    let filled = subst (λ xs. IsFilled c.args.system.now c.args.nest.now None c.args.extra.now xs (length xs) c.fill.new.best.items) c.as_slice-order.ensures.value c.fill.ensures in
    let walk = c.in_ok-walk.ensures ∙ ap (λ b. walk_from c.args.system.now c.args.nest.now b c.args.system.now.nodes (Some c.args.system.now.start)) c.as_slice-2.ensures.value in
    subst IsOnce (sym c.as_slice-3.ensures.value) (first_once _ _ _ c.requires.ways _ _ c.requires.rounds _ filled _ walk)

pub returns-clause-turn : goal.returns-clause-turn
returns-clause-turn c =
    let filled = subst (λ xs. IsFilled c.args.system.now c.args.nest.now None c.args.extra.now xs (length xs) c.fill.new.best.items) c.as_slice-order.ensures.value c.fill.ensures in
    let walk = c.in_ok-walk.ensures ∙ ap (λ b. walk_from c.args.system.now c.args.nest.now b c.args.system.now.nodes (Some c.args.system.now.start)) c.as_slice-2.ensures.value in
    let zeros : c.in_ok-x.x.items ≡ replicate (length c.args.system.now.steps) 0 = search rules in
    let found = way _ _ _ c.requires.ways _ _ c.requires.rounds _ filled in
    let potentials = ap (λ xs. map potential_of xs) c.as_slice.ensures.value in
    let added = subst (λ xs. IsAdded xs 1 c.in_ok-x.x.items c.add.new.x.items) c.as_slice-3.ensures.value c.add.ensures in (
      pos found.0.value,
      record {
        potentials = first_potentials _ _ _ c.requires.ways _ _ c.requires.rounds _ filled _ (c.in_ok-u.ensures ∙ potentials) found.0 found.1;
        counts = first_counts _ _ _ c.requires.ways _ _ c.requires.rounds _ filled found.0 found.1 _ _ _ walk (ap length zeros ∙ length-replicate (length c.args.system.now.steps) 0)
            (λ i. ap (λ xs. slice_index xs i) zeros ∙ zero_at (length c.args.system.now.steps) i) added;
      },
    )
