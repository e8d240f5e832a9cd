use Rattle.std.proofs.Common.{◌≡◌, ◌+◌, ◌≤◌, ◌==◌, take}
use Rattle.std.specs.Prelude.{sum_by, if◌then◌else◌}
use Rattle.wc_f4.proofs.reading.line_at.Given as goal

abbrev pub invariant-loop-byte : goal.invariant-loop-byte
invariant-loop-byte l = record {
  few : l.line ≤ 1 + l.byte-index;
  value : l.line ≡ 1 + sum_by (λ b. if b == 10 then 1 else 0) (take l.byte-index l.byte-items);
}
