use Rattle.std.proofs.Common.{◌≡◌, ◌≤◌, take}
use Rattle.std.specs.Io.KnownBytes.{Appends}
use Rattle.wc_report.specs.ReportText.{run_line, lines_from}
use Rattle.wc_report.proofs.tables.write_runs.Given as goal

abbrev pub invariant-loop-count : goal.invariant-loop-count
invariant-loop-count g l =
    let sink = g.K.Sink in
    record {
      number : l.kind ≡ l.count-index;
      written : Appends (sink.held l.fn.sink) (sink.held l.sink) (lines_from run_line 1 (take l.count-index l.runs));
      later : sink.faults l.fn.sink ≤ sink.faults l.sink;
      place : sink.place l.sink ≡ sink.place l.fn.sink;
    }
