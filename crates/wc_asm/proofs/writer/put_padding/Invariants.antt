use Rattle.std.proofs.Common.{◌≡◌, ◌++◌, replicate}
use Rattle.wc_asm.proofs.writer.put_padding.Given as goal

abbrev pub invariant-loop-place : goal.invariant-loop-place
invariant-loop-place l = l.file.items ≡ l.fn.file.items ++ replicate l._place 0
