use Rattle.std.proofs.Common.{◌≡◌, false}
use Rattle.wc_io.proofs.script_tests.results.Given as goal

abbrev pub invariant-loop : goal.invariant-loop
invariant-loop g l = l.lines.ended ≡ false
