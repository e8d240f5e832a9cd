use Rattle.std.proofs.Common.{◌≡◌, ◌≤◌, take}
use Rattle.std.specs.Prelude.{codes}
use Rattle.std.specs.Io.KnownBytes.{Appends}
use Rattle.wc_base.specs.FaultTexts.{address}
use Rattle.wc_f4.specs.FactText.{separated}
use Rattle.wc_f4.proofs.printing.write_more_addresses.Given as goal

abbrev pub invariant-loop-address : goal.invariant-loop-address
invariant-loop-address g l =
    let sink = g.K.Sink in
    record {
      written : Appends (sink.held l.fn.sink) (sink.held l.sink) (separated (codes ", ") address (take l.address-index l.addresses));
      later : sink.faults l.fn.sink ≤ sink.faults l.sink;
      place : sink.place l.sink ≡ sink.place l.fn.sink;
    }
