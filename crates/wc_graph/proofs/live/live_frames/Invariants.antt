use Rattle.std.proofs.Common.{◌≡◌, length}
use Rattle.wc_graph.specs.Inner.Ordered.{AreLiveFrames}
use Rattle.wc_graph.proofs.live.live_frames.Given as goal

abbrev pub invariant-loop-number : goal.invariant-loop-number
invariant-loop-number l =
    record {
      are : AreLiveFrames l.count l.places l.live l.number l.marked.marks.items;
      count : length l.marked.marks.items ≡ l.count;
    }
