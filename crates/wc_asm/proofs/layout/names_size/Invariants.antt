use Rattle.std.proofs.Common.{◌≡◌, ◌+◌, ◌≤◌, ◌^◌, drop}
use Rattle.wc_asm.specs.Files.{names_size}
use Rattle.wc_asm.proofs.layout.names_size.Given as goal

abbrev pub invariant-loop-name : goal.invariant-loop-name
invariant-loop-name l = record { sum : l.size + names_size (drop l.name-index l.names) ≡ names_size l.names; small : l.size ≤ 2 ^ 24 }
