use Rattle.std.proofs.Common.{ℕ, List, length, sym, subst}
use Rattle.wc_graph.specs.declared.frames.Place.{Place}
use Rattle.wc_graph.specs.declared.survey.Survey.{Survey}
use Rattle.wc_graph.specs.Inner.Inverses.{IsPlacedTo}
use Rattle.wc_graph.specs.Inner.Lists.{Inside}
use Rattle.wc_graph.proofs.RankLemmas.{ordered_over, placed_all, places_few, places_inside}
use Rattle.wc_graph.proofs.ResultLemmas.{if_both}
use Rattle.wc_graph.proofs.numbering.number_places.Goals as goal

pub numbered-requires-clause-few : goal.numbered-requires-clause-few
numbered-requires-clause-few c =
    let survey : Survey = c.args.survey.now in
    let order : List ℕ = c.in_ok-order.order.items in
    places_few survey c.requires.sized c.args.frames.now order (ordered_over survey.code.places.keys c.as_slice-places.result.now survey.live.items c.as_slice.result.now c.args.frames.now.numbers.items c.as_slice-ranks.result.now order c.as_slice-places.ensures.keys c.as_slice.ensures.value c.as_slice-ranks.ensures.value c.in_ok-order.ensures)

pub numbered-requires-clause-inside : goal.numbered-requires-clause-inside
numbered-requires-clause-inside c =
    let survey : Survey = c.args.survey.now in
    let order : List ℕ = c.in_ok-order.order.items in
    subst (λ (ps : List Place). Inside (length ps) order) (sym c.as_slice-places.ensures.keys)
    (places_inside survey c.requires.sized c.args.frames.now order (ordered_over survey.code.places.keys c.as_slice-places.result.now survey.live.items c.as_slice.result.now c.args.frames.now.numbers.items c.as_slice-ranks.result.now order c.as_slice-places.ensures.keys c.as_slice.ensures.value c.as_slice-ranks.ensures.value c.in_ok-order.ensures))

pub returns : goal.returns
returns c =
    let survey : Survey = c.args.survey.now in
    let order : List ℕ = c.in_ok-order.order.items in
    if_both c.numbered.result c.numbered.ensures.order c.numbered.ensures.placed (λ n same placed.
    placed_all survey c.requires.sized c.args.frames.now order (ordered_over survey.code.places.keys c.as_slice-places.result.now survey.live.items c.as_slice.result.now c.args.frames.now.numbers.items c.as_slice-ranks.result.now order c.as_slice-places.ensures.keys c.as_slice.ensures.value c.as_slice-ranks.ensures.value c.in_ok-order.ensures)
    n same (subst (λ (ps : List Place). IsPlacedTo (length ps) order (length order) n.numbers.items) c.as_slice-places.ensures.keys placed))
