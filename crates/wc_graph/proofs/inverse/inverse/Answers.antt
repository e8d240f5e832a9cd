use Rattle.std.proofs.Common.{ℕ, ◌≡◌, ◌<◌, List, Option, Some, length, get_or, set, refl, subst, arith}
use Rattle.std.proofs.lemmas.Option.{slice_get-get_or}
use Rattle.wc_graph.specs.Inner.Inverses.{IsPlacedTo}
use Rattle.wc_graph.proofs.InverseLemmas.{placed_more, placed_none}
use Rattle.wc_graph.proofs.SpreadLemmas.{at_has}
use Rattle.wc_graph.proofs.inverse.inverse.Goals as goal

pub index_mut-requires : goal.index_mut-requires
index_mut-requires c =
    let listed : List ℕ = c.args.listed.now in
    let inside : get_or listed c.loop-place.place 0 < c.args.count = c.requires.inside (get_or listed c.loop-place.place 0) (at_has listed c.loop-place.place 0 (omega arith)) in
    omega (arith, inside, c.loop-place.invariant.counted, c.loop-place.numbers.ok.0)

pub loop-place-preserved : goal.loop-place-preserved
loop-place-preserved c =
    let listed : List ℕ = c.args.listed.now in
    let i = c.loop-place.place in
    let old : List (Option ℕ) = c.loop-place.numbers.items in
    let less : i < length listed = omega arith in
    placed_more c.args.count listed i (get_or listed i 0) old (set old (get_or listed i 0) (Some i)) c.loop-place.invariant (slice_get-get_or listed i 0 less) (c.requires.inside (get_or listed i 0) (at_has listed i 0 less)) refl

pub loop-place-init : goal.loop-place-init
loop-place-init c = placed_none c.args.count c.args.listed.now c.in_ok-numbers.numbers.items c.in_ok-numbers.ensures

pub returns : goal.returns
returns c =
    let end : c.loop-place.place ≡ length c.args.listed.now = omega (arith, c.loop-place-test.false, c.loop-place.auto.place-end) in
    subst (λ (n : ℕ). IsPlacedTo c.args.count c.args.listed.now n c.loop-place.numbers.items) end c.loop-place.invariant
