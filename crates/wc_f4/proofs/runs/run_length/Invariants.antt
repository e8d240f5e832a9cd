use Rattle.std.proofs.Common.{◌≡◌, ◌+◌, ◌-◌, ◌≤◌, length, drop}
use Rattle.wc_f4.specs.Bytes.{run_length}
use Rattle.wc_f4.proofs.runs.run_length.Given as goal

-- the bytes to come complete the count
abbrev pub invariant-loop-count : goal.invariant-loop-count
invariant-loop-count l = record { inside : l.count ≤ length l.bytes; value : l.count + run_length l.kind (drop l.count l.bytes) ≡ run_length l.kind l.bytes }

abbrev pub decreases-loop-count : goal.decreases-loop-count
decreases-loop-count l = length l.bytes - l.count
