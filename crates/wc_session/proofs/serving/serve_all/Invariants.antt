use Rattle.std.proofs.Common.{◌≡◌, ◌≤◌, ◌-◌, None, false}
use Rattle.wc_session.specs.Parts.{IsPart, KeepsCore}
use Rattle.wc_session.proofs.serving.serve_all.Given as goal

abbrev pub invariant-loop-ended : goal.invariant-loop-ended
invariant-loop-ended g l =
    let sink = g.K.Sink in
    record {
      kept : KeepsCore g.W.Work.chain 1 l.fn.core l.core;
      part : IsPart 1 l.image l.fn.core.history l.core.history l.fn.lines.rest l.lines.rest (sink.held l.fn.sink) (sink.held l.sink) None;
      unread : l.lines.ended ≡ false;
      reads_later : l.fn.lines.faults ≤ l.lines.faults;
      writes_later : sink.faults l.fn.sink ≤ sink.faults l.sink;
      source_place : l.lines.place ≡ l.fn.lines.place;
      sink_place : sink.place l.sink ≡ sink.place l.fn.sink;
    }

abbrev pub decreases-loop-ended : goal.decreases-loop-ended
decreases-loop-ended g l = 10000 - l.lines.count
