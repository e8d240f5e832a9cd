use Rattle.std.proofs.Common.{◌≡◌, ◌+◌, length}
use Rattle.wc_simplex.proofs.tests.machines.cube_goal.Given as goal

abbrev pub invariant-loop-place : goal.invariant-loop-place
invariant-loop-place l = length l.entries.items ≡ l.place + l.place
