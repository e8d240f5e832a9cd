use Rattle.std.proofs.Common.{◌≤◌}
use Rattle.wc_io.proofs.script_tests.FilledSource.read.Given as goal

abbrev pub invariant-loop-byte : goal.invariant-loop-byte
invariant-loop-byte l = l.count ≤ l.byte-index
