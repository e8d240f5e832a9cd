use Rattle.std.proofs.Common.{◌≡◌, ◌∙◌, ℕ, Bool, false, true, List, ◌∷◌, get_or, map, set, sym, ap}
use Rattle.std.specs.BinaryHeap.{heap_items}
use Rattle.std.specs.declared.cmp.Reverse.{Reverse}
use Rattle.std.proofs.lemmas.List.{get_or_default}
use Rattle.std.proofs.lemmas.List.Sorted.{IsPermutation-map}
use Rattle.wc_fix.proofs.QueueLemmas.{first_inside, queue_passed, queue_taken}
use Rattle.wc_fix.proofs.waiting.Waiting.next.Goals as goal

pub invariant_of-self : goal.invariant_of-self
invariant_of-self c =
    let first = λ (x : Reverse ℕ). x.0 in
    let old = heap_items c.loop-least.self-inside.queue in
    let new = heap_items c.pop.new.self in
    queue_taken c.loop-least.self-inside.flags.items c.in-Some.least.0 (map first old) (map first new) (IsPermutation-map first old (c.in-Some.least ∷ new) c.in-Some.ensures.permutation) c.loop-least.invariant.queue

pub returns-then-index : goal.returns-then-index
returns-then-index c =
    let first = λ (x : Reverse ℕ). x.0 in
    let flags = c.loop-least.self-inside.flags.items in
    let node : ℕ = c.in-Some.least.0 in
    let old = heap_items c.loop-least.self-inside.queue in
    let new = heap_items c.pop.new.self in
    let moved = IsPermutation-map first old (c.in-Some.least ∷ new) c.in-Some.ensures.permutation in
    let within = first_inside flags node (map first old) (map first new) moved c.loop-least.invariant.queue in
    let waits : get_or flags node false ≡ true = get_or_default flags node false c.index.result.now within ∙ sym c.index.ensures ∙ c.if-index.true in
    (ap (λ (xs : List Bool). get_or xs node false) (sym c.loop-least.invariant.same) ∙ waits, ap (λ (xs : List Bool). set xs node false) c.loop-least.invariant.same)

pub loop-least-preserved : goal.loop-least-preserved
loop-least-preserved c =
    let first = λ (x : Reverse ℕ). x.0 in
    let flags = c.loop-least.self-inside.flags.items in
    let node : ℕ = c.in-Some.least.0 in
    let old = heap_items c.loop-least.self-inside.queue in
    let new = heap_items c.pop.new.self in
    let moved = IsPermutation-map first old (c.in-Some.least ∷ new) c.in-Some.ensures.permutation in
    let within = first_inside flags node (map first old) (map first new) moved c.loop-least.invariant.queue in
    let idle : get_or flags node false ≡ false = get_or_default flags node false c.index.result.now within ∙ sym c.index.ensures ∙ c.if-index.false in
    record {
      same = c.loop-least.invariant.same;
      queue = queue_passed flags node (map first old) (map first new) moved c.loop-least.invariant.queue idle;
    }
