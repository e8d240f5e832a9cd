use Rattle.std.proofs.Common.{◌≡◌, map}
use Rattle.std.specs.BinaryHeap.{heap_items, heap_len}
use Rattle.wc_fix.specs.Inner.Queues.{IsQueue}
use Rattle.wc_fix.proofs.waiting.Waiting.next.Given as goal

abbrev pub invariant-loop-least : goal.invariant-loop-least
invariant-loop-least l = record {
  same : l.self-inside.flags.items ≡ l.fn.self;
  queue : IsQueue l.self-inside.flags.items (map (λ x. x.0) (heap_items l.self-inside.queue));
}

abbrev pub decreases-loop-least : goal.decreases-loop-least
decreases-loop-least l = heap_len l.self-inside.queue
