use Rattle.std.proofs.Common.{◌≡◌, ◌+◌, length}
use Rattle.std.specs.List.{All}
use Rattle.wc_simplex.proofs.tests.machines.cube_rows.Given as goal

abbrev pub invariant-loop-own : goal.invariant-loop-own
invariant-loop-own l = record {
  wide : All (λ r. length r ≡ l.size + l.size + 2) l.rows.items;
  counted : length l.rows.items ≡ l.own;
}
