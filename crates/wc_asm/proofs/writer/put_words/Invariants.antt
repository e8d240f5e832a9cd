use Rattle.std.proofs.Common.{◌≡◌, ◌++◌, drop}
use Rattle.wc_asm.specs.Files.{words}
use Rattle.wc_asm.proofs.writer.put_words.Given as goal

abbrev pub invariant-loop-value : goal.invariant-loop-value
invariant-loop-value l = l.file.items ++ words (drop l.value-index l.values) ≡ l.fn.file.items ++ words l.values
