use Rattle.std.proofs.Common.{ℕ, ◌≡◌, ◌+◌, ◌<◌, ◌≤◌, List, Some, vec_len, length, refl, sym, ap, subst, arith}
use Rattle.std.specs.List.{slice_get}
use Rattle.std.proofs.lemmas.List.{length_push}
use Rattle.wc_graph.specs.declared.live.Marked.{Marked}
use Rattle.wc_graph.specs.Inner.Lists.{Has}
use Rattle.wc_graph.specs.Inner.Spreads.{IsUnmarked, Marks, unmarked}
use Rattle.wc_graph.proofs.SpreadLemmas.{last_has, no_rest, number_within, spread_begins, spread_on, spread_ends}
use Rattle.wc_graph.proofs.live.spread.Goals as goal

pub loop-number-init : goal.loop-number-init
loop-number-init c = spread_begins c.args.into.now c.args.from.now c.in_ok-marked.marked c.mark_all.new.self (subst (λ (n : ℕ). IsUnmarked n c.in_ok-marked.marked) c.len.ensures c.in_ok-marked.ensures) c.in_ok-mark_all.ensures

pub gather-requires : goal.gather-requires
gather-requires c =
    let old = c.loop-number.marked in
    number_within c.args.into.now c.args.from.now old c.in-Some.number c.loop-number.invariant (subst (λ (xs : List ℕ). Has xs c.in-Some.number) (sym c.in-Some.ensures.items) (last_has c.pop.new.self.items c.in-Some.number))

pub mark_all-requires-in-Some : goal.mark_all-requires-in-Some
mark_all-requires-in-Some c =
    let into : List (List ℕ) = c.args.into.now in
    let old = c.loop-number.marked in
    let n = c.in-Some.number in
    let less : n < length into = number_within into c.args.from.now old n c.loop-number.invariant (subst (λ (xs : List ℕ). Has xs n) (sym c.in-Some.ensures.items) (last_has c.pop.new.self.items n)) in
    λ k has. let inside : k < length into = c.requires.lists n c.gather.new.found.items c.in_ok-gather.ensures k (subst (λ (xs : List ℕ). Has xs k) c.as_slice.ensures.value has) in omega (arith, inside, c.loop-number.invariant.count)

pub loop-number-preserved : goal.loop-number-preserved
loop-number-preserved c =
    let into : List (List ℕ) = c.args.into.now in
    let old = c.loop-number.marked in
    let n = c.in-Some.number in
    let mid : Marked = record { marks = old.marks; work = c.pop.new.self } in
    let new : Marked = c.mark_all-in-Some.new.self in
    let v : List ℕ = c.gather.new.found.items in
    let less : n < length into = number_within into c.args.from.now old n c.loop-number.invariant (subst (λ (xs : List ℕ). Has xs n) (sym c.in-Some.ensures.items) (last_has c.pop.new.self.items n)) in
    let at : slice_get into n ≡ Some v = c.in_ok-gather.ensures in
    spread_on into c.args.from.now old mid new n v refl c.in-Some.ensures.items at c.loop-number.invariant (subst (λ (xs : List ℕ). Marks xs mid new) c.as_slice.ensures.value c.in_ok-mark_all-2.ensures)

pub loop-number-smaller : goal.loop-number-smaller
loop-number-smaller c =
    let old = c.loop-number.marked in
    let new : Marked = c.mark_all-in-Some.new.self in
    let left : unmarked new.marks.items + length new.work.items ≤ unmarked old.marks.items + length c.pop.new.self.items = c.in_ok-mark_all-2.ensures.left in
    omega (arith, left, ap length c.in-Some.ensures.items, length_push c.pop.new.self.items c.in-Some.number)

pub returns : goal.returns
returns c = spread_ends c.args.into.now c.args.from.now c.loop-number.marked (no_rest c.loop-number.marked.work.items (vec_len c.loop-number.marked.work) c.loop-number.marked.work.ok.0 c.in_default.ensures.variant.1) c.loop-number.invariant
