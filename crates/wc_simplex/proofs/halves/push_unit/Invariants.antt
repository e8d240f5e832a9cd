use Rattle.std.proofs.Common.{◌≡◌, ◌==◌, ◌++◌, map}
use Rattle.std.specs.List.{range_with_len}
use Rattle.wc_model.specs.Flow.Tableaus.{one_if}
use Rattle.wc_simplex.proofs.halves.push_unit.Given as goal

abbrev pub invariant-loop-place : goal.invariant-loop-place
invariant-loop-place l = l.row.items ≡ l.fn.row.items ++ map (λ k. one_if (k == l.own)) (range_with_len 0 l.place)
