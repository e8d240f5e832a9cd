use Rattle.std.proofs.Common.{◌≡◌, drop, not}
use Rattle.wc_model.specs.Flow.RowMachine.{is_zero, place_from}
use Rattle.wc_simplex.proofs.rows.first_nonzero.Given as goal

abbrev pub invariant-loop-place : goal.invariant-loop-place
invariant-loop-place l = place_from (λ x. not (is_zero x)) l.place (drop l.place l.entries) ≡ place_from (λ x. not (is_zero x)) 0 l.entries
