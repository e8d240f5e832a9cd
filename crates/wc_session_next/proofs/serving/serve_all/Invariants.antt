use Rattle.std.proofs.Common.{◌≡◌, ◌≤◌, ◌-◌, None, false}
use Rattle.wc_session_next.specs.Parts.{IsPart, KeepsPass}
use Rattle.wc_session_next.proofs.serving.serve_all.Given as goal

abbrev pub invariant-loop-ended : goal.invariant-loop-ended
invariant-loop-ended g l =
    let sink = g.K.Sink in
    record {
      kept : KeepsPass g.W.Work.chain g.N.Named.desk g.N.Named.opening l.fn.pass l.pass;
      part : IsPart l.image l.fn.pass l.pass l.fn.lines.rest l.lines.rest (sink.held l.fn.sink) (sink.held l.sink) None;
      unread : l.lines.ended ≡ false;
      reads_later : l.fn.lines.faults ≤ l.lines.faults;
      writes_later : sink.faults l.fn.sink ≤ sink.faults l.sink;
      source_place : l.lines.place ≡ l.fn.lines.place;
      sink_place : sink.place l.sink ≡ sink.place l.fn.sink;
    }

abbrev pub decreases-loop-ended : goal.decreases-loop-ended
decreases-loop-ended g l = 10000 - l.lines.count
