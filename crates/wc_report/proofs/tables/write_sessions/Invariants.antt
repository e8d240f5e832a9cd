use Rattle.std.proofs.Common.{◌≡◌, ◌≤◌, take}
use Rattle.std.specs.Io.KnownBytes.{Appends}
use Rattle.wc_report.specs.ReportText.{session_line, lines_from}
use Rattle.wc_report.proofs.tables.write_sessions.Given as goal

abbrev pub invariant-loop-ended : goal.invariant-loop-ended
invariant-loop-ended g l =
    let sink = g.K.Sink in
    record {
      number : l.session ≡ l.ended-index;
      written : Appends (sink.held l.fn.sink) (sink.held l.sink) (lines_from session_line 1 (take l.ended-index l.ends));
      later : sink.faults l.fn.sink ≤ sink.faults l.sink;
      place : sink.place l.sink ≡ sink.place l.fn.sink;
    }
