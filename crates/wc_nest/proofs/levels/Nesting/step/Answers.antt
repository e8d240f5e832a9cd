use Rattle.std.proofs.Common.{ℕ, ◌≡◌, Option, None, Some, sym, refl, ◌∙◌}
use Rattle.wc_nest.proofs.NestingLemmas.{numbers_found, looped_found, pairs_found, places_found, room_found, second_is, next_nesting}
use Rattle.wc_nest.proofs.levels.Nesting.step.Goals as goal

none_from : (o : Option ℕ) → ((x : ℕ) → o ≡ Some x → ⊥) → o ≡ None
none_from None never = refl
none_from (Some x) never = absurd (never x refl)

pub second_head-requires-clause-numbers : goal.second_head-requires-clause-numbers
second_head-requires-clause-numbers c =
    let k = c.requires.nesting.0 in
    rw (c.deref.ensures.value, c.deref-2.ensures.value, c.deref-3.ensures.value, pairs_found c.args.graph.now c.requires.graph k c.args.level.now c.args.self.now c.find.new.self c.in_ok-found.found c.requires.nesting.1 c.in_ok-found.ensures) (numbers_found c.args.graph.now c.requires.graph k c.args.level.now c.args.self.now c.find.new.self c.in_ok-found.found c.requires.nesting.1 c.in_ok-found.ensures)

pub returns-in-Some : goal.returns-in-Some
returns-in-Some c = λ k nesting.
    let is = rw (c.deref.ensures.value, c.deref-2.ensures.value, c.deref-3.ensures.value) at c.second_head.ensures in
    second_is c.args.graph.now c.requires.graph k c.args.level.now c.args.self.now c.find.new.self c.in_ok-found.found nesting c.in_ok-found.ensures c.in-Some.second (sym is ∙ c.in-Some.is)

pub add-requires-clause-numbers : goal.add-requires-clause-numbers
add-requires-clause-numbers c = let k = c.requires.nesting.0 in numbers_found c.args.graph.now c.requires.graph k c.args.level.now c.args.self.now c.find.new.self c.in_ok-found.found c.requires.nesting.1 c.in_ok-found.ensures

pub add-requires-clause-looped : goal.add-requires-clause-looped
add-requires-clause-looped c = let k = c.requires.nesting.0 in looped_found c.args.graph.now c.requires.graph k c.args.level.now c.args.self.now c.find.new.self c.in_ok-found.found c.requires.nesting.1 c.in_ok-found.ensures

pub add-requires-clause-pairs : goal.add-requires-clause-pairs
add-requires-clause-pairs c = let k = c.requires.nesting.0 in pairs_found c.args.graph.now c.requires.graph k c.args.level.now c.args.self.now c.find.new.self c.in_ok-found.found c.requires.nesting.1 c.in_ok-found.ensures

pub add-requires-clause-places : goal.add-requires-clause-places
add-requires-clause-places c = let k = c.requires.nesting.0 in places_found c.args.graph.now c.requires.graph k c.args.level.now c.args.self.now c.find.new.self c.in_ok-found.found c.requires.nesting.1 c.in_ok-found.ensures

pub add-requires-clause-room : goal.add-requires-clause-room
add-requires-clause-room c = let k = c.requires.nesting.0 in room_found c.args.graph.now c.requires.graph k c.args.level.now c.args.self.now c.find.new.self c.in_ok-found.found c.requires.nesting.1 c.in_ok-found.ensures

pub inner-requires-clause-numbers : goal.inner-requires-clause-numbers
inner-requires-clause-numbers c =
    let k = c.requires.nesting.0 in
    rw (c.in_ok-add.ensures.search, looped_found c.args.graph.now c.requires.graph k c.args.level.now c.args.self.now c.find.new.self c.in_ok-found.found c.requires.nesting.1 c.in_ok-found.ensures) (numbers_found c.args.graph.now c.requires.graph k c.args.level.now c.args.self.now c.find.new.self c.in_ok-found.found c.requires.nesting.1 c.in_ok-found.ensures)

pub returns : goal.returns
returns c = λ k nesting.
    let is = rw (c.deref.ensures.value, c.deref-2.ensures.value, c.deref-3.ensures.value) at c.second_head.ensures in
    let e = c.clear.ensures in
    next_nesting c.args.graph.now c.requires.graph k c.args.level.now c.args.self.now c.find.new.self c.in_ok-found.found nesting c.in_ok-found.ensures (sym is ∙ none_from c.second_head.result c.in_default.not-Some) c.add.new.self c.in_ok-add.ensures c.clear.new.self c.in_ok-inner.inner c.in_ok-inner.ensures e.marks e.entered e.next e.path e.stack e.bounds e.listing e.back c.requires.some
