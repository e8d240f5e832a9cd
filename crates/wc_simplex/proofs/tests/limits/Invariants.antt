use Rattle.std.proofs.Common.{◌≡◌, length}
use Rattle.std.specs.List.{All, range_with_len}
use Rattle.wc_model.specs.Flow.Systems.{named_by}
use Rattle.wc_simplex.proofs.tests.limits.Given as goal

abbrev pub invariant-loop-place : goal.invariant-loop-place
invariant-loop-place l = record {
  named : All (λ x. named_by x ≡ range_with_len 0 6) l.made.items;
  counted : length l.made.items ≡ l.place;
}
