use Rattle.std.proofs.Common.{◌+◌, arith, ap, ◌∙◌}
use Rattle.wc_report.specs.ReportText.{session_line}
use Rattle.wc_report.proofs.ReportLemmas.{line_written, line_partly}
use Rattle.wc_report.proofs.tables.write_sessions.Goals as goal

pub returns-in-Err-clause-text : goal.returns-in-Err-clause-text
returns-in-Err-clause-text g c =
    line_partly session_line (g.K.Sink.held c.args.sink.now) (g.K.Sink.held c.loop-ended.sink) (g.K.Sink.held c.write_session_line.new.sink) c.args.ends.now c.loop-ended.ended-index (c.loop-ended.session + 1) _ c.loop-ended-test.true (omega (arith, c.loop-ended.invariant.number)) c.loop-ended.invariant.written c.in-Err.ensures.text

pub loop-ended-preserved : goal.loop-ended-preserved
loop-ended-preserved g c = record {
  number = ap (λ n. n + 1) c.loop-ended.invariant.number;
  written = line_written session_line (g.K.Sink.held c.args.sink.now) (g.K.Sink.held c.loop-ended.sink) (g.K.Sink.held c.write_session_line.new.sink) c.args.ends.now c.loop-ended.ended-index (c.loop-ended.session + 1) _ c.loop-ended-test.true (omega (arith, c.loop-ended.invariant.number)) c.loop-ended.invariant.written c.in-Ok.ensures.text;
  later = omega (arith, c.loop-ended.invariant.later, c.in-Ok.ensures.cause.later);
  place = c.in-Ok.ensures.place ∙ c.loop-ended.invariant.place;
}
