use Rattle.std.proofs.Common.{◌≡◌, ◌+◌, ◌≤◌, length, drop, not}
use Rattle.wc_model.specs.Flow.Cells.{first_steps, is_passed}
use Rattle.wc_model.specs.Flow.Places.{places_from}
use Rattle.wc_system.proofs.cells.column_count.Given as goal

abbrev pub invariant-loop-place : goal.invariant-loop-place
invariant-loop-place l = record { few : l.count ≤ l.place; to_come : l.count + length (places_from l.place (λ i t. not (is_passed l.system t.source)) (drop l.place l.system.steps)) ≡ length (first_steps l.system) }
