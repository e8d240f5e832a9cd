use Rattle.std.proofs.Common.{◌≡◌, ◌≤◌, take}
use Rattle.std.specs.Io.KnownBytes.{Appends}
use Rattle.wc_report.specs.ReportText.{entry_line, lines_from}
use Rattle.wc_report.proofs.tables.write_entries.Given as goal

abbrev pub invariant-loop-entry : goal.invariant-loop-entry
invariant-loop-entry g l =
    let sink = g.K.Sink in
    record {
      number : l.place ≡ l.entry-index;
      written : Appends (sink.held l.fn.sink) (sink.held l.sink) (lines_from entry_line 1 (take l.entry-index l.history));
      later : sink.faults l.fn.sink ≤ sink.faults l.sink;
      place : sink.place l.sink ≡ sink.place l.fn.sink;
    }
