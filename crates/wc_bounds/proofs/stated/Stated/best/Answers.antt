use Rattle.std.proofs.Common.{ℕ, ◌≡◌, ◌<◌, Option, None, Some, length, subst, sym, ap, arith}
use Rattle.wc_bounds.specs.declared.best.Best.{Best}
use Rattle.wc_bounds.specs.Inner.Stated.{IsLatest, IsBestFrom, places_before}
use Rattle.wc_bounds.proofs.StatedLemmas.{best_first, best_last, best_more, before_less, less_from, none_from, place_within}
use Rattle.wc_bounds.proofs.stated.Stated.best.Goals as goal

pub loop-place-init : goal.loop-place-init
loop-place-init c =
    let facts = c.args.facts.now in
    let pc = c.args.node.now.pc in
    (length facts, subst (λ (o : Option ℕ). IsLatest facts pc (length facts) o) (sym c.last_of-place.ensures) (c.requires.stated.last pc), λ p is_at. best_first facts p)

pub with_place-more-requires-clause-inside : goal.with_place-more-requires-clause-inside
with_place-more-requires-clause-inside c =
    let was = c.loop-place.invariant in
    place_within c.args.facts.now c.args.node.now.pc was.0 c.in-Some.index (rw c.in-Some.is at was.1)

pub before_of-earlier-requires : goal.before_of-earlier-requires
before_of-earlier-requires c =
    let was = c.loop-place.invariant in
    let within : c.in-Some.index < length c.args.facts.now = place_within c.args.facts.now c.args.node.now.pc was.0 c.in-Some.index (rw c.in-Some.is at was.1) in
    omega (arith, c.requires.stated.counted)

pub loop-place-preserved : goal.loop-place-preserved
loop-place-preserved c =
    let facts = c.args.facts.now in
    let pc = c.args.node.now.pc in
    let was = c.loop-place.invariant in
    let index = c.in-Some.index in
    let latest = rw c.in-Some.is at was.1 in (
      index,
      c.requires.stated.before index pc c.before_of-earlier.result c.before_of-earlier.ensures latest.1,
      λ p is_at.
          let more = c.with_place-more.ensures p is_at in
          subst (λ (o : Option Best). IsBestFrom facts p index o) (sym more.2) (best_more facts p was.0 index more.0 c.loop-place.best more.1 (subst (λ (n : ℕ). IsLatest facts n was.0 (Some index)) is_at.0 latest) (was.2 p is_at)),
    )

pub loop-place-smaller : goal.loop-place-smaller
loop-place-smaller c =
    let facts = c.args.facts.now in
    let pc = c.args.node.now.pc in
    let was = c.loop-place.invariant in
    let index = c.in-Some.index in
    let latest = rw c.in-Some.is at was.1 in
    less_from (places_before c.before_of-earlier.result) (places_before c.loop-place.place) index (before_less facts pc index c.before_of-earlier.result (c.requires.stated.before index pc c.before_of-earlier.result c.before_of-earlier.ensures latest.1)) (ap places_before c.in-Some.is)

pub returns : goal.returns
returns c = λ p is_at.
    let facts = c.args.facts.now in
    let was = c.loop-place.invariant in
    let none : c.loop-place.place ≡ None = none_from c.loop-place.place c.in_default.not-Some in
    let latest : IsLatest facts c.args.node.now.pc was.0 None = subst (λ (o : Option ℕ). IsLatest facts c.args.node.now.pc was.0 o) none was.1 in
    best_last facts p was.0 c.loop-place.best (subst (λ (n : ℕ). IsLatest facts n was.0 None) is_at.0 latest) (was.2 p is_at)
