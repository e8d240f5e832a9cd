use Rattle.std.proofs.Common.{◌+◌, arith, ap, subst, ◌∙◌}
use Rattle.wc_model.specs.declared.entries.Entry.{Entry}
use Rattle.std.specs.Io.KnownBytes.{Appends}
use Rattle.wc_io.specs.Writing.{AppendsPart}
use Rattle.wc_report.specs.ReportText.{entry_line}
use Rattle.wc_report.proofs.ReportLemmas.{line_written, line_partly}
use Rattle.wc_report.proofs.tables.write_entries.Goals as goal

pub returns-in-Err-clause-text : goal.returns-in-Err-clause-text
returns-in-Err-clause-text g c =
    line_partly entry_line (g.K.Sink.held c.args.sink.now) (g.K.Sink.held c.loop-entry.sink) (g.K.Sink.held c.write_entry_line.new.sink) c.args.history.now c.loop-entry.entry-index (c.loop-entry.place + 1) c.entry-item.result c.loop-entry-test.true (omega (arith, c.loop-entry.invariant.number)) c.loop-entry.invariant.written (subst (λ (x : Entry). AppendsPart (g.K.Sink.held c.loop-entry.sink) (g.K.Sink.held c.write_entry_line.new.sink) (entry_line (c.loop-entry.place + 1) x)) c.entry-item.is c.in-Err.ensures.text)

pub loop-entry-preserved : goal.loop-entry-preserved
loop-entry-preserved g c = record {
  number = ap (λ n. n + 1) c.loop-entry.invariant.number;
  written = line_written entry_line (g.K.Sink.held c.args.sink.now) (g.K.Sink.held c.loop-entry.sink) (g.K.Sink.held c.write_entry_line.new.sink) c.args.history.now c.loop-entry.entry-index (c.loop-entry.place + 1) c.entry-item.result c.loop-entry-test.true (omega (arith, c.loop-entry.invariant.number)) c.loop-entry.invariant.written (subst (λ (x : Entry). Appends (g.K.Sink.held c.loop-entry.sink) (g.K.Sink.held c.write_entry_line.new.sink) (entry_line (c.loop-entry.place + 1) x)) c.entry-item.is c.in-Ok.ensures.text);
  later = omega (arith, c.loop-entry.invariant.later, c.in-Ok.ensures.cause.later);
  place = c.in-Ok.ensures.place ∙ c.loop-entry.invariant.place;
}
