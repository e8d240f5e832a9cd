use Rattle.std.proofs.Common.{◌≡◌, ◌==◌, ◌+◌, if◌then◌else◌, slice_index, take}
use Rattle.std.specs.List.{sum_by}
use Rattle.wc_nestsolve.proofs.counts.entered.Given as goal

abbrev pub invariant-loop-place : goal.invariant-loop-place
invariant-loop-place l = l.sum ≡ (if l.own.head == l.start then 1 else 0) + sum_by (slice_index l.x) (take l.place-index l.own.entry)
