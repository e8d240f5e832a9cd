use Rattle.std.proofs.Common.{◌≡◌, ◌≤◌, take, flat_map}
use Rattle.std.specs.Io.KnownBytes.{Appends}
use Rattle.wc_report.specs.ReplyText.{numbered_text}
use Rattle.wc_report.proofs.replies.write_facts.Given as goal

abbrev pub invariant-loop-fact : goal.invariant-loop-fact
invariant-loop-fact g l =
    let sink = g.K.Sink in
    record {
      written : Appends (sink.held l.fn.sink) (sink.held l.sink) (flat_map numbered_text (take l.fact-index l.facts));
      later : sink.faults l.fn.sink ≤ sink.faults l.sink;
      place : sink.place l.sink ≡ sink.place l.fn.sink;
    }
