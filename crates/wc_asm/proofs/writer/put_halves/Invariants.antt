use Rattle.std.proofs.Common.{◌≡◌, ◌++◌, drop}
use Rattle.wc_asm.specs.Files.{halves}
use Rattle.wc_asm.proofs.writer.put_halves.Given as goal

abbrev pub invariant-loop-value : goal.invariant-loop-value
invariant-loop-value l = l.file.items ++ halves (drop l.value-index l.values) ≡ l.fn.file.items ++ halves l.values
