use Rattle.std.proofs.Common.{◌≡◌, drop}
use Rattle.wc_model.specs.Flow.RowMachine.{is_negative, place_from}
use Rattle.wc_simplex.proofs.rows.first_negative.Given as goal

abbrev pub invariant-loop-place : goal.invariant-loop-place
invariant-loop-place l = place_from is_negative l.place (drop l.place l.entries) ≡ place_from is_negative 0 l.entries
