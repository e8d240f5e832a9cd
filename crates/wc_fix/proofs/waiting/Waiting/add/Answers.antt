use Rattle.std.proofs.Common.{◌<◌, ℕ, Bool, length, map, ap, arith}
use Rattle.std.specs.BinaryHeap.{heap_items}
use Rattle.std.specs.declared.cmp.Reverse.{Reverse}
use Rattle.std.proofs.lemmas.List.Sorted.{IsPermutation-map}
use Rattle.wc_fix.proofs.QueueLemmas.{queue_added}
use Rattle.wc_fix.proofs.waiting.Waiting.add.Goals as goal

pub invariant_of-self-2 : goal.invariant_of-self-2
invariant_of-self-2 c =
    let first = λ (x : Reverse ℕ). x.0 in
    let flags = c.self.inside.flags.items in
    let old = heap_items c.self.inside.queue in
    let new = heap_items c.push.new.self in
    let within : c.args.node < length flags = omega (arith, c.requires, ap (length {A = Bool}) c.self.view_is) in
    queue_added flags c.args.node (map first old) (map first new) within (IsPermutation-map first _ new c.in_ok-push.ensures.permutation) c.self.invariant
