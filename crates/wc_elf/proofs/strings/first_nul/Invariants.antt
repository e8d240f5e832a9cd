use Rattle.std.proofs.Common.{◌≡◌}
use Rattle.wc_elf.specs.Strings.{nul_from}
use Rattle.wc_elf.proofs.strings.first_nul.Given as goal

abbrev pub invariant-loop-place : goal.invariant-loop-place
invariant-loop-place l = nul_from l.strings l.place ≡ nul_from l.strings l.start
