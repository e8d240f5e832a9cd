use Rattle.std.proofs.Common.{◌≡◌, ◌++◌, length}
use Rattle.wc_asm.specs.Files.{strings_of, string_table}
use Rattle.wc_asm.proofs.writer.put_strings.Given as goal

abbrev pub invariant-loop-name : goal.invariant-loop-name
invariant-loop-name l = l.file.items ++ strings_of l.rest ≡ l.fn.file.items ++ string_table l.names

abbrev pub decreases-loop-name : goal.decreases-loop-name
decreases-loop-name l = length l.rest
