use Rattle.std.proofs.Common.{◌≡◌, ◌≤◌, ◌-◌, vec_len}
use Rattle.std.specs.Io.KnownBytes.{Consumes}
use Rattle.wc_io.proofs.whole.read_whole.Given as goal

abbrev pub invariant-loop-count : goal.invariant-loop-count
invariant-loop-count g l =
    let source = g.S.Source in
    record {
      taken : Consumes (source.left l.fn.source) (source.left l.source) l.bytes.items;
      short : vec_len l.bytes ≤ l.most;
      later : source.faults l.fn.source ≤ source.faults l.source;
      place : source.place l.source ≡ source.place l.fn.source;
    }

abbrev pub decreases-loop-count : goal.decreases-loop-count
decreases-loop-count g l = l.most - vec_len l.bytes
