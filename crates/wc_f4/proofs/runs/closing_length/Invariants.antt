use Rattle.std.proofs.Common.{◌≡◌, ◌+◌, ◌-◌, ◌≤◌, length, drop}
use Rattle.std.specs.Prelude.{option_map}
use Rattle.wc_f4.specs.Bytes.{closing_length}
use Rattle.wc_f4.proofs.runs.closing_length.Given as goal

-- the bytes to come complete the count
abbrev pub invariant-loop-count : goal.invariant-loop-count
invariant-loop-count l = record { inside : l.count ≤ length l.bytes; value : option_map (λ n. l.count + n) (closing_length (drop l.count l.bytes)) ≡ closing_length l.bytes }

abbrev pub decreases-loop-count : goal.decreases-loop-count
decreases-loop-count l = length l.bytes - l.count
