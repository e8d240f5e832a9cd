use Rattle.std.proofs.Common.{◌≡◌, ◌≤◌, take}
use Rattle.std.specs.Prelude.{codes}
use Rattle.std.specs.Io.KnownBytes.{Appends}
use Rattle.wc_f4.specs.FactText.{separated, term_text}
use Rattle.wc_f4.proofs.printing.write_more_terms.Given as goal

abbrev pub invariant-loop-term : goal.invariant-loop-term
invariant-loop-term g l =
    let sink = g.K.Sink in
    record {
      written : Appends (sink.held l.fn.sink) (sink.held l.sink) (separated (codes " + ") term_text (take l.term-index l.terms));
      later : sink.faults l.fn.sink ≤ sink.faults l.sink;
      place : sink.place l.sink ≡ sink.place l.fn.sink;
    }
