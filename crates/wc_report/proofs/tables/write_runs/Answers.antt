use Rattle.std.proofs.Common.{◌+◌, arith, ap, ◌∙◌}
use Rattle.wc_report.specs.ReportText.{run_line}
use Rattle.wc_report.proofs.ReportLemmas.{line_written, line_partly}
use Rattle.wc_report.proofs.tables.write_runs.Goals as goal

pub write_run_line-requires : goal.write_run_line-requires
write_run_line-requires g c = (omega arith, omega (arith, c.loop-count.invariant.number, c.loop-count-test.true, c.requires))

pub returns-in-Err-clause-text : goal.returns-in-Err-clause-text
returns-in-Err-clause-text g c =
    line_partly run_line (g.K.Sink.held c.args.sink.now) (g.K.Sink.held c.loop-count.sink) (g.K.Sink.held c.write_run_line.new.sink) c.args.runs.now c.loop-count.count-index (c.loop-count.kind + 1) _ c.loop-count-test.true (omega (arith, c.loop-count.invariant.number)) c.loop-count.invariant.written c.in-Err.ensures.text

pub loop-count-preserved : goal.loop-count-preserved
loop-count-preserved g c = record {
  number = ap (λ n. n + 1) c.loop-count.invariant.number;
  written = line_written run_line (g.K.Sink.held c.args.sink.now) (g.K.Sink.held c.loop-count.sink) (g.K.Sink.held c.write_run_line.new.sink) c.args.runs.now c.loop-count.count-index (c.loop-count.kind + 1) _ c.loop-count-test.true (omega (arith, c.loop-count.invariant.number)) c.loop-count.invariant.written c.in-Ok.ensures.text;
  later = omega (arith, c.loop-count.invariant.later, c.in-Ok.ensures.cause.later);
  place = c.in-Ok.ensures.place ∙ c.loop-count.invariant.place;
}
